use Rattle.std.proofs.Common.{◌≡◌, map, take, flat_map}
use Rattle.schema_components.specs.Given.{component_name_tree}
use Rattle.schema_types.specs.TypeView.{extended_type}
use Rattle.graphql_schema.specs.SchemaOf.{schema_tree}
use Rattle.rule_definitions.specs.Room.{◌⊕◌}
use Rattle.strict_documents.specs.DepartureViews.{departures_of}
use Rattle.strict_schemas.specs.Departing.{extra_over}
use Rattle.strict_schemas.proofs.extra.tell_extra.Given as goal

abbrev pub invariant-loop-interface : goal.invariant-loop-interface
invariant-loop-interface l = departures_of l.departures ≡ departures_of l.fn.departures ⊕ flat_map (extra_over (schema_tree l.schema) (extended_type l.ty)) (map component_name_tree (take l.interface-index l.interface-items))
