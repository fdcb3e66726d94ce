-- Private: leads to `Fails` of `schema_fold`. What contracts see of what a list defines.
use Rattle.schema_fold_index.specs.in_components.Names.{entries_of}
use Rattle.schema_fold_index.specs.in_schema_types.TypeView.{name_text}
use Rattle.schema_fold_index.specs.in_fold.PartsView.{itself}
use Rattle.schema_fold_types.specs.DefinedKinds.{DefinedKinds}
use Rattle.schema_fold_types.specs.declared.defined_kinds.DefinedKinds.{DefinedKinds as Rust}

abbrev pub seen_view : Rust → DefinedKinds
seen_view s = record { kinds = entries_of name_text itself s.kinds; schema = s.schema }
