use Rattle.std.proofs.Common.{◌≡◌, take, map}
use Rattle.std.specs.List.{flat_map}
use Rattle.graphql_names.specs.Placed.{node_tree}
use Rattle.tree_directives.specs.DirectiveTree.{directive_tree}
use Rattle.rule_definitions.specs.Room.{◌⊕◌}
use Rattle.rule_selection_queries.specs.in_reach.in_typed_operations.DocumentView.{operation_meant}
use Rattle.rule_fragments.specs.Broken.{brokens_of}
use Rattle.rule_fragments.specs.ListedBreaches.{conditional}
use Rattle.rule_fragments.proofs.subscriptions.check_root_selection.Given as goal

abbrev pub invariant-loop-directive : goal.invariant-loop-directive
invariant-loop-directive l = brokens_of l.breaches ≡ brokens_of l.initial.breaches ⊕ flat_map (conditional (operation_meant l.operation)) (map (node_tree directive_tree) (take l.directive-index l.directives))
