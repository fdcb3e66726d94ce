use Rattle.std.proofs.Common.{map}
use Rattle.graphql_schema.specs.SchemaOf.{schema_tree}
use Rattle.fault_data.specs.Adds.{Adds}
use Rattle.strict_schemas.specs.FaultsIn.{InputDefaults}
use Rattle.strict_schemas.specs.Told.{input_entry}
use Rattle.strict_schemas.proofs.defaults.check_inputs.Given as goal

abbrev pub invariant-loop-field : goal.invariant-loop-field
invariant-loop-field l = Adds l.fn.faults l.faults (InputDefaults (schema_tree l.schema) (map input_entry (map (λ e. (e.0.now, e.1.now)) l.yielded)))
