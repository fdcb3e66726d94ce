-- The table of the repository is one.
use Rattle.std.proofs.Common.{◌≡◌, Bool, true, false, ◌&&◌, List, [], ◌∷◌, Option, Some, None, is_none, refl}
use Rattle.std.specs.List.{list_all, AllByRecursion}
use Rattle.graphql_names.specs.Places.{is_built_in}
use Rattle.schema_types.specs.TypeParts.{type_extension_here}
use Rattle.schema_built_in.specs.Table.{built_in_definitions}
use Rattle.schema_fold.specs.NumberedDefinition.{types_in, directives_in}
use Rattle.schema_fold.specs.SchemaFold.{schema_here, schema_extension_here}
use Rattle.verdict_laws.specs.Table.{IsTable, HasNoQuery}

module _ {X : Type 0} where
  tested : (f : X → Bool) (xs : List X) → list_all f xs ≡ true → AllByRecursion (λ x. f x ≡ true) xs
  tested f [] h = tt
  tested f (x ∷ xs) h = by (f x) refl h (λ k. tested f xs k)
    where
      by : (b : Bool) → f x ≡ b → (b && list_all f xs) ≡ true → (list_all f xs ≡ true → AllByRecursion (λ x. f x ≡ true) xs) → (f x ≡ true) × AllByRecursion (λ x. f x ≡ true) xs
      by true e k rest = (e, rest k)
      by false e k rest = absurd cc

  none : {Y : Type 0} (f : X → Option Y) (xs : List X) → AllByRecursion (λ x. is_none (f x) ≡ true) xs → AllByRecursion (λ x. f x ≡ None) xs
  none f [] h = tt
  none {Y} f (x ∷ xs) h = (by (f x) h.0, none f xs h.1)
    where
      by : (o : Option Y) → is_none o ≡ true → o ≡ None
      by None k = refl
      by (Some y) k = cc

pub real_table : IsTable built_in_definitions
unfolding built_in_definitions
real_table = record {
  types_distinct = refl;
  types_marked = tested (λ t. is_built_in t.place) (types_in built_in_definitions) refl;
  no_extension = none type_extension_here built_in_definitions (tested (λ d. is_none (type_extension_here d)) built_in_definitions refl);
  directives_distinct = refl;
  directives_marked = tested (λ d. is_built_in d.place) (directives_in built_in_definitions) refl;
  no_schema = none schema_here built_in_definitions (tested (λ d. is_none (schema_here d)) built_in_definitions refl);
  no_schema_extension = none schema_extension_here built_in_definitions (tested (λ d. is_none (schema_extension_here d)) built_in_definitions refl);
}

pub real_table_has_no_query : HasNoQuery built_in_definitions
unfolding built_in_definitions
real_table_has_no_query = refl
