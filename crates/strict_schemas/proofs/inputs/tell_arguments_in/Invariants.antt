use Rattle.std.proofs.Common.{◌≡◌, map}
use Rattle.graphql_schema.specs.SchemaOf.{schema_tree}
use Rattle.rule_definitions.specs.Room.{◌⊕◌}
use Rattle.strict_documents.specs.DepartureViews.{departures_of}
use Rattle.strict_schemas.specs.Told.{arguments_in}
use Rattle.strict_schemas.proofs.inputs.tell_arguments_in.Given as goal

abbrev pub invariant-loop-field : goal.invariant-loop-field
invariant-loop-field l = departures_of l.departures ≡ departures_of l.fn.departures ⊕ arguments_in (schema_tree l.schema) (map (λ e. (e.0.now, e.1.now)) l.yielded)
