use Rattle.std.proofs.Common.{map}
use Rattle.graphql_schema.specs.SchemaOf.{schema_tree}
use Rattle.fault_data.specs.Adds.{Adds}
use Rattle.strict_schemas.specs.FaultsIn.{DefinitionsDefaults}
use Rattle.strict_schemas.specs.Told.{definition_entry}
use Rattle.strict_schemas.proofs.defaults.check_definitions.Given as goal

abbrev pub invariant-loop-definition : goal.invariant-loop-definition
invariant-loop-definition l = Adds l.fn.faults l.faults (DefinitionsDefaults (schema_tree l.schema) (map definition_entry (map (λ e. (e.0.now, e.1.now)) l.yielded)))
