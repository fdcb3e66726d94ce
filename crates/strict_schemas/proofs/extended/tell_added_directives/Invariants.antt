use Rattle.std.proofs.Common.{◌≡◌, map, take, flat_map}
use Rattle.tree_directives.specs.DirectiveTree.{directive_tree}
use Rattle.schema_components.specs.Given.{component_tree}
use Rattle.rule_definitions.specs.Room.{◌⊕◌}
use Rattle.strict_documents.specs.DepartureViews.{departures_of}
use Rattle.strict_schemas.specs.Departing.{added_directive}
use Rattle.strict_schemas.proofs.extended.tell_added_directives.Given as goal

abbrev pub invariant-loop-directive : goal.invariant-loop-directive
invariant-loop-directive l = departures_of l.departures ≡ departures_of l.fn.departures ⊕ flat_map added_directive (map (component_tree directive_tree) (take l.directive-index l.directive-items))
