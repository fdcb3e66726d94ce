use Rattle.std.proofs.Common.{◌≡◌, map}
use Rattle.graphql_schema.specs.SchemaOf.{schema_tree}
use Rattle.rule_definitions.specs.Room.{◌⊕◌}
use Rattle.strict_documents.specs.DepartureViews.{departures_of}
use Rattle.strict_schemas.specs.Told.{definitions_in}
use Rattle.strict_schemas.proofs.definitions.tell_definitions.Given as goal

abbrev pub invariant-loop-definition : goal.invariant-loop-definition
invariant-loop-definition l = departures_of l.departures ≡ departures_of l.fn.departures ⊕ definitions_in (schema_tree l.schema) (map (λ e. (e.0.now, e.1.now)) l.yielded)
