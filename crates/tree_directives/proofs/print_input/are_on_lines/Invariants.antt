use Rattle.std.proofs.Common.{◌≡◌, map, drop}
use Rattle.tree_literals.specs.in_names.Placed.{node_tree}
use Rattle.tree_directives.specs.DirectiveTree.{input_value_tree}
use Rattle.tree_directives.specs.InputLayout.{are_on_lines}
use Rattle.tree_directives.proofs.print_input.are_on_lines.Given as goal

abbrev pub invariant-loop-argument : goal.invariant-loop-argument
invariant-loop-argument l =
    are_on_lines (map (node_tree input_value_tree) l.arguments) ≡ are_on_lines (map (node_tree input_value_tree) (drop l.argument-index l.arguments))
