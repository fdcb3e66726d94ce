use Rattle.std.proofs.Common.{◌≡◌, drop, map}
use Rattle.schema_built_in.specs.in_fold.NumberedDefinition.{definitions_of}
use Rattle.schema_built_in.specs.in_fold.SchemaFold.{is_object_in}
use Rattle.schema_built_in.specs.in_fold.ListedView.{listed_view}
use Rattle.schema_building.proofs.defined.is_object.Given as goal

abbrev pub invariant-loop-listed : goal.invariant-loop-listed
invariant-loop-listed l = is_object_in (definitions_of (map listed_view (drop l.listed-index l.list))) l.name ≡ is_object_in (definitions_of (map listed_view l.list)) l.name
