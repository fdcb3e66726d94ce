use Rattle.std.proofs.Common.{◌≡◌, map, drop}
use Rattle.tree_directives.specs.in_literals.in_names.Placed.{node_tree}
use Rattle.tree_operations.specs.OperationTree.{variable_definition_tree}
use Rattle.tree_operations.specs.OperationWritable.{variables_writable}
use Rattle.tree_operations.proofs.writable_operation.variables_are_writable.Given as goal

abbrev pub invariant-loop-variable : goal.invariant-loop-variable
invariant-loop-variable l = variables_writable (map (node_tree variable_definition_tree) l.variables) ≡ variables_writable (map (node_tree variable_definition_tree) (drop l.variable-index l.variables))
