use Rattle.std.proofs.Common.{map}
use Rattle.graphql_names.specs.NameValue.{NameValue}
use Rattle.rule_values.specs.in_schema.in_schema_types.declared.extended_type.ExtendedType.{ExtendedType}
use Rattle.rule_values.specs.in_schema.in_schema_types.TypeView.{name_text, extended_type}
use Rattle.rule_values.specs.in_schema.SchemaOf.{schema_tree}
use Rattle.rule_values.specs.in_fault_data.Adds.{Adds}
use Rattle.rule_arguments.specs.SchemaUses.{TypesUses}
use Rattle.rule_arguments.proofs.schema_uses.check_types.Given as goal

abbrev pub invariant-loop-ty : goal.invariant-loop-ty
invariant-loop-ty l = Adds l.fn.faults l.faults (TypesUses (schema_tree l.schema) (map (λ (e : NameValue × ExtendedType). (name_text e.0, extended_type e.1)) (map (λ e. (e.0.now, e.1.now)) l.yielded)))
