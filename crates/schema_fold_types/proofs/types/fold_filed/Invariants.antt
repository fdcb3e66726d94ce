use Rattle.std.proofs.Common.{map, take}
use Rattle.std.specs.List.{flat_map}
use Rattle.schema_fold_index.specs.in_schema_types.SchemaView.{types_view}
use Rattle.schema_fold_index.specs.in_fold.FaultView.{faults_of}
use Rattle.schema_fold_index.specs.in_fold.NumberedDefinition.{definitions_of}
use Rattle.schema_fold_index.specs.in_fold.ListedView.{listed_view}
use Rattle.schema_fold_types.specs.Filing.{FoldsOn}
use Rattle.schema_fold_index.specs.Index.{defined_at, extensions_under}
use Rattle.schema_fold_types.proofs.types.fold_filed.Given as goal

abbrev pub invariant-loop-filed : goal.invariant-loop-filed
invariant-loop-filed l =
    FoldsOn (extensions_under (map listed_view l.extended.texts.now) l.extended.filed.now.entries) (flat_map (λ f. defined_at (definitions_of (map listed_view l.extended.texts.now)) f.first) (take l.filed-index l.defined))
    (types_view l.fn.types) (faults_of l.fn.faults) (types_view l.types) (faults_of l.faults)
