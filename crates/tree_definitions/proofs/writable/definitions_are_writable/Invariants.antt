use Rattle.std.proofs.Common.{◌≡◌, map, drop}
use Rattle.std.specs.List.{list_all}
use Rattle.tree_definitions.specs.DefinitionTree.{definition_tree}
use Rattle.tree_definitions.specs.Writable.{definition_writable}
use Rattle.tree_definitions.proofs.writable.definitions_are_writable.Given as goal

abbrev pub invariant-loop-definition : goal.invariant-loop-definition
invariant-loop-definition l = list_all definition_writable (map definition_tree l.definitions) ≡ list_all definition_writable (map definition_tree (drop l.definition-index l.definitions))
