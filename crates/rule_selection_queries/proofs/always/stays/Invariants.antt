use Rattle.std.proofs.Common.{◌≡◌, false, take, map}
use Rattle.std.specs.List.{list_any}
use Rattle.graphql_names.specs.Placed.{node_tree}
use Rattle.tree_directives.specs.DirectiveTree.{directive_tree}
use Rattle.rule_selection_queries.specs.Stays.{leaves_out}
use Rattle.rule_selection_queries.proofs.always.stays.Given as goal

abbrev pub invariant-loop-directive : goal.invariant-loop-directive
invariant-loop-directive l = list_any leaves_out (map (node_tree directive_tree) (take l.directive-index l.directives)) ≡ false
