-- Private: leads to `validated`. Types that are put under names, one after another.
use Rattle.std.specs.Prelude.{ℕ, List, [], ◌∷◌, if◌then◌else◌}
use Rattle.std.specs.Str.{bytes_eq}
use Rattle.graphql_names.specs.Placed.{Place}
use Rattle.schema_components.specs.Names.{Entries}
use Rattle.schema_types.specs.SchemaTree.{SchemaType, SchemaTree}
use Rattle.rule_definitions.specs.Kept.{is_dropped, is_missing, built_in_scalar}

-- the entries with a under the name n: instead of the value that n had, or else as the last entry
abbrev pub put_under : {A : Type 0} → List ℕ → A → Entries A → Entries A
put_under n a [] = (n, a) ∷ []
put_under n a (e ∷ es) = if bytes_eq n e.0 then (e.0, a) ∷ es else e ∷ put_under n a es

module _ (s : SchemaTree Place) where
  -- the entries and one type more, unless it is dropped
  abbrev pub and_kept : Entries (SchemaType Place) → List ℕ × SchemaType Place → Entries (SchemaType Place)
  and_kept es e = if is_dropped s e then es else put_under e.0 e.1 es

  -- the entries and one of the five built-in scalars more, if it is missing
  abbrev pub and_missing : Entries (SchemaType Place) → List ℕ → Entries (SchemaType Place)
  and_missing es n = if is_missing s n then put_under n (built_in_scalar n).1 es else es
