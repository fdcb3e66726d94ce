use Rattle.std.proofs.Common.{◌≡◌, drop, map}
use Rattle.schema_fold.specs.NumberedDefinition.{definitions_of}
use Rattle.schema_fold.specs.SchemaFold.{schema_definition_in}
use Rattle.schema_fold.specs.ListedView.{listed_view}
use Rattle.schema_fold_roots.proofs.defined.first_schema.Given as goal

abbrev pub invariant-loop-listed : goal.invariant-loop-listed
invariant-loop-listed l = schema_definition_in (definitions_of (map listed_view (drop l.listed-index l.list))) ≡ schema_definition_in (definitions_of (map listed_view l.list))
