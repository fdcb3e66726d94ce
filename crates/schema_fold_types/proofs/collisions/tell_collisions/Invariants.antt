use Rattle.std.proofs.Common.{◌≡◌, ◌++◌, map, take, is_some}
use Rattle.schema_fold_index.specs.in_fold.FaultView.{faults_of}
use Rattle.schema_fold_index.specs.in_fold.NumberedDefinition.{definitions_of}
use Rattle.schema_fold_index.specs.in_fold.ListedView.{listed_view}
use Rattle.schema_fold_index.specs.in_fold.SchemaFold.{schema_definition_in}
use Rattle.schema_fold_types.specs.DefinedKinds.{collision_faults}
use Rattle.schema_fold_types.specs.DefinedKindsView.{seen_view}
use Rattle.schema_fold_types.proofs.collisions.tell_collisions.Given as goal

abbrev pub invariant-loop-position : goal.invariant-loop-position
invariant-loop-position l = record {
  schema : l.schema ≡ is_some (schema_definition_in (definitions_of (map listed_view (take l.position l.texts))));
  told : faults_of l.faults ≡ faults_of l.fn.faults ++ collision_faults (seen_view l.built_in) (definitions_of (map listed_view (take l.position l.texts)));
}
