use Rattle.std.proofs.Common.{◌≡◌, map, take}
use Rattle.schema_fold_index.specs.in_fold.NumberedDefinition.{definitions_of}
use Rattle.schema_fold_index.specs.in_fold.ListedView.{listed_view}
use Rattle.schema_fold_types.specs.DefinedKinds.{seen_of}
use Rattle.schema_fold_types.specs.DefinedKindsView.{seen_view}
use Rattle.schema_fold_types.proofs.defined_kinds.DefinedKinds.of.Given as goal

abbrev pub invariant-loop-listed : goal.invariant-loop-listed
invariant-loop-listed l = seen_view l.seen ≡ seen_of (definitions_of (map listed_view (take l.listed-index l.list)))
