use Rattle.std.proofs.Common.{◌≡◌, map, drop}
use Rattle.tree_literals.specs.in_names.Placed.{node_tree}
use Rattle.tree_directives.specs.DirectiveTree.{directive_tree}
use Rattle.tree_directives.specs.DirectiveWritable.{directives_writable}
use Rattle.tree_directives.proofs.writable_directive.each_directive_is_writable.Given as goal

abbrev pub invariant-loop-directive : goal.invariant-loop-directive
invariant-loop-directive l = directives_writable l.is_const (map (node_tree directive_tree) l.directives) ≡ directives_writable l.is_const (map (node_tree directive_tree) (drop l.directive-index l.directives))
