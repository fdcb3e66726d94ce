use Rattle.std.proofs.Common.{◌≡◌, ◌++◌, map, take}
use Rattle.std.specs.List.{flat_map}
use Rattle.tree_definitions.specs.DefinitionTree.{definition_tree}
use Rattle.schema_writing.specs.SchemaParts.{written_node}
use Rattle.schema_writing.proofs.directives.write_directives.Given as goal

abbrev pub invariant-loop-directive : goal.invariant-loop-directive
invariant-loop-directive l = map definition_tree l.out.items ≡ map definition_tree l.fn.out.items ++ flat_map written_node (take l.directive-index l.directives)
