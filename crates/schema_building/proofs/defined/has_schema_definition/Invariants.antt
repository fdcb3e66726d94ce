use Rattle.std.proofs.Common.{◌≡◌, drop, map, is_some}
use Rattle.schema_built_in.specs.in_fold.NumberedDefinition.{definitions_of}
use Rattle.schema_built_in.specs.in_fold.SchemaFold.{schema_definition_in}
use Rattle.schema_built_in.specs.in_fold.ListedView.{listed_view}
use Rattle.schema_building.proofs.defined.has_schema_definition.Given as goal

abbrev pub invariant-loop-listed : goal.invariant-loop-listed
invariant-loop-listed l = is_some (schema_definition_in (definitions_of (map listed_view (drop l.listed-index l.list)))) ≡ is_some (schema_definition_in (definitions_of (map listed_view l.list)))
