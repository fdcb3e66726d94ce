use Rattle.std.proofs.Common.{◌≡◌, drop, map}
use Rattle.graphql_names.specs.Placed.{node_tree}
use Rattle.tree_operations.specs.DirectiveTree.{directive_tree, directives_tree}
use Rattle.rule_reach.specs.NotedNames.{noted_names}
use Rattle.rule_reach.specs.UsedNames.{with_directives}
use Rattle.rule_reach.proofs.used_names.note_in_directives.Given as goal

abbrev pub invariant-loop-directive : goal.invariant-loop-directive
invariant-loop-directive l = with_directives (noted_names l.fn.names) (directives_tree l.directives) ≡ with_directives (noted_names l.names) (map (node_tree directive_tree) (drop l.directive-index l.directives.0.items))
