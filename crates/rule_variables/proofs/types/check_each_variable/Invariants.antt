use Rattle.std.proofs.Common.{take}
use Rattle.rule_definitions.specs.Words.{AtSomeIndex}
use Rattle.graphql_schema.specs.SchemaOf.{schema_tree}
use Rattle.rule_arguments.specs.in_fault_data.Adds.{Adds}
use Rattle.rule_arguments.specs.in_rule_values.Wanting.{variables_of}
use Rattle.rule_variables.specs.VariableFaults.{VariableBreaks}
use Rattle.rule_variables.proofs.types.check_each_variable.Given as goal

abbrev pub invariant-loop-variable : goal.invariant-loop-variable
invariant-loop-variable l = Adds l.fn.faults l.faults (λ f. AtSomeIndex (variables_of (take l.variable-index l.variables)) (λ i x. VariableBreaks (schema_tree l.schema) x f))
