use Rattle.std.proofs.Common.{◌≡◌, map}
use Rattle.graphql_schema.specs.SchemaOf.{schema_tree}
use Rattle.rule_definitions.specs.Room.{◌⊕◌}
use Rattle.strict_documents.specs.DepartureViews.{departures_of}
use Rattle.strict_schemas.specs.Told.{types_in}
use Rattle.strict_schemas.proofs.schema.tell_types.Given as goal

abbrev pub invariant-loop-ty : goal.invariant-loop-ty
invariant-loop-ty l = departures_of l.departures ≡ departures_of l.fn.departures ⊕ types_in (schema_tree l.schema) (map (λ e. (e.0.now, e.1.now)) l.yielded)
