use Rattle.std.proofs.Common.{◌≡◌, map, drop}
use Rattle.tree_literals.specs.in_names.Placed.{node_tree}
use Rattle.tree_directives.specs.DirectiveTree.{input_value_tree}
use Rattle.tree_directives.specs.DirectiveWritable.{input_values_writable}
use Rattle.tree_directives.proofs.writable_directive.input_values_are_writable.Given as goal

abbrev pub invariant-loop-input : goal.invariant-loop-input
invariant-loop-input l = input_values_writable (map (node_tree input_value_tree) l.inputs) ≡ input_values_writable (map (node_tree input_value_tree) (drop l.input-index l.inputs))
