use Rattle.std.proofs.Common.{◌≡◌, ◌++◌, map, take}
use Rattle.std.specs.List.{flat_map}
use Rattle.schema_fold_index.specs.in_fold.FaultView.{faults_of}
use Rattle.schema_fold_index.specs.in_fold.NumberedDefinition.{definitions_of}
use Rattle.schema_fold_index.specs.in_fold.ListedView.{listed_view}
use Rattle.schema_fold_types.specs.DefinedKinds.{extension_faults}
use Rattle.schema_fold_types.specs.DefinedKindsView.{seen_view}
use Rattle.schema_fold_types.specs.TextDefinitionsView.{own_view}
use Rattle.schema_fold_types.proofs.orphans.tell_extensions.Given as goal

abbrev pub invariant-loop-listed : goal.invariant-loop-listed
invariant-loop-listed l = faults_of l.faults ≡ faults_of l.fn.faults ++ flat_map (extension_faults (seen_view l.built_in) (own_view l.own)) (definitions_of (map listed_view (take l.listed-index l.texts)))
