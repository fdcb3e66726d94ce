use Rattle.std.proofs.Common.{◌≡◌, ◌++◌, take, map}
use Rattle.std.specs.List.{flat_map}
use Rattle.graphql_names.specs.Placed.{node_tree}
use Rattle.tree_directives.specs.DirectiveTree.{directive_tree}
use Rattle.rule_fragments.specs.Labels.{values_meant, label_of}
use Rattle.rule_fragments.proofs.labels.push_own_labels.Given as goal

abbrev pub invariant-loop-directive : goal.invariant-loop-directive
invariant-loop-directive l = values_meant l.found.items ≡ values_meant l.initial.found.items ++ flat_map label_of (map (node_tree directive_tree) (take l.directive-index l.directives))
