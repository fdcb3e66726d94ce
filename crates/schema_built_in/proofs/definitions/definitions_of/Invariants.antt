use Rattle.std.proofs.Common.{◌≡◌, map, take}
use Rattle.schema_fold.specs.in_definitions.DefinitionTree.{definition_tree}
use Rattle.schema_built_in.specs.Rows.{row_definition}
use Rattle.schema_built_in.proofs.definitions.definitions_of.Given as goal

abbrev pub invariant-loop-row : goal.invariant-loop-row
invariant-loop-row l = map definition_tree l.definitions.items ≡ map row_definition (take l.row-index l.rows)
