use Rattle.std.proofs.Common.{◌≡◌, take}
use Rattle.graphql_schema.specs.SchemaOf.{schema_tree}
use Rattle.rule_definitions.specs.Room.{◌⊕◌}
use Rattle.rule_values.specs.Wanting.{variables_of}
use Rattle.strict_documents.specs.DepartureViews.{departures_of}
use Rattle.strict_documents.specs.Telling.{variables_departures}
use Rattle.strict_documents.proofs.variables.tell_variables.Given as goal

abbrev pub invariant-loop-variable : goal.invariant-loop-variable
invariant-loop-variable l = departures_of l.departures ≡ departures_of l.fn.departures ⊕ variables_departures (schema_tree l.schema) (variables_of (take l.variable-index l.variables))
