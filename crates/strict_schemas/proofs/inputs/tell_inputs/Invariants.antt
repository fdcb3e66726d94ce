use Rattle.std.proofs.Common.{◌≡◌, take}
use Rattle.graphql_schema.specs.SchemaOf.{schema_tree}
use Rattle.rule_definitions.specs.Room.{◌⊕◌}
use Rattle.strict_documents.specs.DepartureViews.{departures_of}
use Rattle.strict_schemas.specs.Told.{inputs_of_nodes}
use Rattle.strict_schemas.proofs.inputs.tell_inputs.Given as goal

abbrev pub invariant-loop-input : goal.invariant-loop-input
invariant-loop-input l = departures_of l.departures ≡ departures_of l.fn.departures ⊕ inputs_of_nodes (schema_tree l.schema) (take l.input-index l.inputs)
