use Rattle.std.proofs.Common.{map, take, codes}
use Rattle.tree_directives.specs.in_literals.in_names.Placed.{node_tree}
use Rattle.tree_operations.specs.OperationTree.{variable_definition_tree}
use Rattle.tree_directives.specs.in_literals.Joined.{further_text}
use Rattle.tree_directives.specs.in_literals.LineLayout.{texts_of}
use Rattle.tree_operations.specs.OperationLayout.{variable_text}
use Rattle.tree_operations.proofs.print_operation.put_further_variables.Given as goal

abbrev pub invariant-loop-variable : goal.invariant-loop-variable
invariant-loop-variable g l =
    g.S.Sink.puts l.fn.sink (further_text (codes ", ") (texts_of variable_text (map (node_tree variable_definition_tree) (take l.variable-index l.variables)))) l.sink
