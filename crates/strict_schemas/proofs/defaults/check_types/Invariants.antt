use Rattle.std.proofs.Common.{map}
use Rattle.graphql_schema.specs.SchemaOf.{schema_tree}
use Rattle.fault_data.specs.Adds.{Adds}
use Rattle.strict_schemas.specs.FaultsIn.{TypesDefaults}
use Rattle.strict_schemas.specs.Told.{type_entry}
use Rattle.strict_schemas.proofs.defaults.check_types.Given as goal

abbrev pub invariant-loop-ty : goal.invariant-loop-ty
invariant-loop-ty l = Adds l.fn.faults l.faults (TypesDefaults (schema_tree l.schema) (map type_entry (map (λ e. (e.0.now, e.1.now)) l.yielded)))
