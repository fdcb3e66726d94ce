use Rattle.std.proofs.Common.{map}
use Rattle.graphql_schema.specs.SchemaOf.{schema_tree}
use Rattle.fault_data.specs.Adds.{Adds}
use Rattle.strict_schemas.specs.FaultsIn.{ArgumentDefaults}
use Rattle.strict_schemas.specs.Told.{field_entry}
use Rattle.strict_schemas.proofs.defaults.check_fields.Given as goal

abbrev pub invariant-loop-field : goal.invariant-loop-field
invariant-loop-field l = Adds l.fn.faults l.faults (ArgumentDefaults (schema_tree l.schema) (map field_entry (map (λ e. (e.0.now, e.1.now)) l.yielded)))
