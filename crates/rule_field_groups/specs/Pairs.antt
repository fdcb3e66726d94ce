-- Private: leads to `FieldsMerge`. Pairs of sets that are looked at.
use Rattle.std.specs.Prelude.{◌≡◌, ◌+◌, ◌++◌, ◌∷◌, ◌⊎◌, List, [], map, length, Contains}
use Rattle.graphql_names.specs.Placed.{Place}
use Rattle.list_interner.specs.NumberLists.{HaveSame}
use Rattle.rule_selection_queries.specs.in_spec_document.MeantTree.{MeantSet}
use Rattle.rule_selection_queries.specs.in_document_definitions.ReadFields.{ReadSet}
use Rattle.rule_field_groups.specs.Members.{read_sets}
use Rattle.rule_field_groups.specs.MergeState.{Kept, HasLooked}
use Rattle.rule_field_groups.specs.Under.{Sets}

-- the lists have only sets of these, and any two of these are the members of one of the lists
pub record AreTwosOf (xs : Sets) (twos : List Sets) : Type 0 where
  pub within : (two : Sets) → Contains twos two → (v : MeantSet Place) → Contains two v → Contains xs v
  pub covers : (v w : MeantSet Place) → Contains xs v → Contains xs w → (two : Sets) × (Contains twos two × HaveSame two (v ∷ w ∷ []))

-- pairs of each of these with another one
abbrev pub each_with : Sets → MeantSet Place → List Sets
each_with xs v = map (λ w. w ∷ v ∷ []) xs

-- pairs of a set with each of the others
abbrev pub with_each : MeantSet Place → Sets → List Sets
with_each v xs = map (λ w. v ∷ w ∷ []) xs

-- one of these pairs has the same members as `known`, by their contents
abbrev pub HasSame : List Sets → List ReadSet → Type 0
HasSame pairs known = (two : Sets) × (Contains pairs two × HaveSame known (read_sets two))

-- only wanted pairs are looked at, and all of them; each that was not looked at before is appended
pub record Looks (wanted : List Sets) (old new : Kept) : Type 0 where
  pub lists : new.lists ≡ old.lists
  pub expanded : new.expanded ≡ old.expanded
  pub pairs : List Sets
  pub is_pairs : new.pairs ≡ old.pairs ++ pairs
  pub count : length new.looked ≡ length old.looked + length pairs
  pub within : (two : Sets) → Contains pairs two → Contains wanted two
  pub keeps : (known : List ReadSet) → Contains old.looked known → Contains new.looked known
  pub fresh : (known : List ReadSet) → Contains new.looked known → Contains old.looked known ⊎ HasSame pairs known
  pub has : (two : Sets) → Contains wanted two → HasLooked new.looked (read_sets two)
