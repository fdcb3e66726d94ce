use Rattle.std.proofs.Common.{◌≡◌, map, drop}
use Rattle.tree_literals.specs.in_names.Placed.{node_tree}
use Rattle.tree_directives.specs.DirectiveTree.{argument_tree}
use Rattle.tree_directives.specs.DirectiveWritable.{arguments_writable}
use Rattle.tree_directives.proofs.writable_directive.arguments_are_writable.Given as goal

abbrev pub invariant-loop-argument : goal.invariant-loop-argument
invariant-loop-argument l = arguments_writable l.is_const (map (node_tree argument_tree) l.arguments) ≡ arguments_writable l.is_const (map (node_tree argument_tree) (drop l.argument-index l.arguments))
