-- Two lists are rearranged if one is a permutation of the other that keeps the order of definitions, and of extensions, of the same thing (GraphQL,
-- October 2021, sections 2.2 and 3).
use Rattle.std.specs.Prelude.{◌≡◌, ℕ, false, ◌&&◌, List, [], ◌∷◌, ◌++◌}
use Rattle.std.specs.List.{list_any, AllByRecursion}
use Rattle.graphql_names.specs.Placed.{Place}
use Rattle.schema_fold.specs.in_definitions.DefinitionTree.{DefinitionTree, unplaced_definition}
use Rattle.schema_fold.specs.in_definitions.Queries.{is_executable}
use Rattle.schema_fold.specs.NumberedDefinition.{Definitions}
use Rattle.verdict_laws.specs.RearrangedLists.{defines_type, extends_type, defines_directive, defines_schema, is_schema_extension, IsRearranged}

-- two definitions that do not define, or extend, the same thing
pub record CanPass (d e : DefinitionTree Place) : Type 0 where
  pub types : (n : List ℕ) → (defines_type n d && defines_type n e) ≡ false
  pub extensions : (n : List ℕ) → (extends_type n d && extends_type n e) ≡ false
  pub directives : (n : List ℕ) → (defines_directive n d && defines_directive n e) ≡ false
  pub schemas : (defines_schema d && defines_schema e) ≡ false
  pub schema_extensions : (is_schema_extension d && is_schema_extension e) ≡ false

-- The definitions of the second list, in order, are taken out of the first list: each can pass all that are still before it. Places are ignored.
pub data IsPermuted : Definitions → Definitions → Type 0 where
  nothing : IsPermuted [] []
  next : (front : Definitions) (d : DefinitionTree Place) (back : Definitions) (e : DefinitionTree Place) (es : Definitions) → AllByRecursion (λ f. CanPass f d) front → unplaced_definition d ≡ unplaced_definition e
      → IsPermuted (front ++ back) es → IsPermuted (front ++ d ∷ back) (e ∷ es)

abbrev pub PermutedIsRearranged : Type 0
PermutedIsRearranged = (ds es : Definitions) → IsPermuted ds es → IsRearranged ds es

-- lists without operations and fragments are rearranged in no other way; of operations and fragments only whether there are any counts
abbrev pub RearrangedIsPermuted : Type 0
RearrangedIsPermuted = (ds es : Definitions) → list_any is_executable ds ≡ false → IsRearranged ds es → IsPermuted ds es

pub record RearrangingIsAnEquivalence : Type 0 where
  pub reflexive : (ds : Definitions) → IsRearranged ds ds
  pub symmetric : (ds es : Definitions) → IsRearranged ds es → IsRearranged es ds
  pub transitive : (ds es fs : Definitions) → IsRearranged ds es → IsRearranged es fs → IsRearranged ds fs
