use Rattle.std.proofs.Common.{◌≡◌, drop, map}
use Rattle.std.specs.List.{list_any}
use Rattle.tree_literals.specs.in_names.Placed.{node_tree}
use Rattle.tree_directives.specs.DirectiveTree.{directive_tree, directives_tree}
use Rattle.tree_directives.specs.DirectiveQueries.{directive_has_name}
use Rattle.tree_directives.proofs.directive.DirectiveList.has.Given as goal

abbrev pub invariant-loop-directive : goal.invariant-loop-directive
invariant-loop-directive l = list_any (directive_has_name l.name) (directives_tree l.self) ≡ list_any (directive_has_name l.name) (map (node_tree directive_tree) (drop l.directive-index l.directive-items))
