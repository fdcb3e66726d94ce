use Rattle.std.proofs.Common.{◌≡◌, map, take, flat_map}
use Rattle.schema_components.specs.Given.{component_name_tree}
use Rattle.rule_definitions.specs.Room.{◌⊕◌}
use Rattle.strict_documents.specs.DepartureViews.{departures_of}
use Rattle.strict_schemas.specs.Departing.{added_name}
use Rattle.strict_schemas.proofs.extended.tell_added_names.Given as goal

abbrev pub invariant-loop-component : goal.invariant-loop-component
invariant-loop-component l = departures_of l.departures ≡ departures_of l.fn.departures ⊕ flat_map added_name (map component_name_tree (take l.component-index l.names))
