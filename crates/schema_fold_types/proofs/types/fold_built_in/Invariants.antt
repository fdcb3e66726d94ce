use Rattle.std.proofs.Common.{map, take}
use Rattle.schema_fold_index.specs.in_schema_types.SchemaView.{types_view}
use Rattle.schema_fold_index.specs.in_fold.FaultView.{faults_of}
use Rattle.schema_fold_index.specs.in_fold.NumberedDefinition.{types_in, definitions_of}
use Rattle.schema_fold_index.specs.in_fold.ListedView.{listed_view}
use Rattle.schema_fold_types.specs.Filing.{FoldsOn}
use Rattle.schema_fold_index.specs.Index.{extensions_under}
use Rattle.schema_fold_types.proofs.types.fold_built_in.Given as goal

abbrev pub invariant-loop-listed : goal.invariant-loop-listed
invariant-loop-listed l =
    FoldsOn (extensions_under (map listed_view l.extended.texts.now) l.extended.filed.now.entries) (types_in (definitions_of (map listed_view (take l.listed-index l.built_in))))
    (types_view l.fn.types) (faults_of l.fn.faults) (types_view l.types) (faults_of l.faults)
