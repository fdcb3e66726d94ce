use Rattle.std.proofs.Common.{◌≡◌, map, take, flat_map}
use Rattle.graphql_names.specs.Placed.{node_tree}
use Rattle.tree_directives.specs.DirectiveTree.{directive_tree}
use Rattle.rule_definitions.specs.Room.{◌⊕◌}
use Rattle.strict_documents.specs.DepartureViews.{departures_of}
use Rattle.strict_schemas.specs.Departing.{applied_departure}
use Rattle.strict_schemas.proofs.definitions.tell_applied.Given as goal

abbrev pub invariant-loop-directive : goal.invariant-loop-directive
invariant-loop-directive l = departures_of l.departures ≡ departures_of l.fn.departures ⊕ flat_map applied_departure (map (node_tree directive_tree) (take l.directive-index l.directive-items))
