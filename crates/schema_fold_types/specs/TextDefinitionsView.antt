-- Private: leads to `Fails` of `schema_fold`. What contracts see of what the texts define, by their index.
use Rattle.std.specs.Prelude.{ℕ, Bool, List, map}
use Rattle.schema_fold_index.specs.Index.{text_kind, is_filed_before}
use Rattle.schema_fold_types.specs.DefinedKinds.{DefinedKinds}
use Rattle.schema_fold_types.specs.declared.collisions.Before.{Before}
use Rattle.schema_fold_types.specs.declared.defined_kinds.TextDefinitions.{TextDefinitions}

-- the kind of the first type of each name, and whether there is a schema definition
abbrev pub own_view : TextDefinitions → DefinedKinds
own_view o = record { kinds = map text_kind o.defined.now.entries; schema = o.schema }

-- whether a type of that name is defined before the position
abbrev pub is_defined_before : Before → List ℕ → Bool
is_defined_before b n = is_filed_before b.position b.defined.now.entries n
