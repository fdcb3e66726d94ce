use Rattle.std.proofs.Common.{take}
use Rattle.rule_values.specs.in_schema.in_schema_types.Addresses.{place_at}
use Rattle.rule_values.specs.in_schema.SchemaOf.{schema_tree}
use Rattle.rule_values.specs.in_rule_definitions.Words.{AtSomeIndex}
use Rattle.rule_values.specs.in_rule_definitions.Judged.{judged}
use Rattle.rule_values.specs.in_rule_definitions.Uses.{UseBreaks}
use Rattle.rule_values.specs.in_fault_data.Adds.{Adds}
use Rattle.rule_values.specs.Wanting.{variables_of}
use Rattle.rule_arguments.specs.Trees.{directives_of}
use Rattle.rule_arguments.proofs.directives.check_each_use.Given as goal

abbrev pub invariant-loop-directive : goal.invariant-loop-directive
invariant-loop-directive l = Adds l.fn.faults l.faults (λ f. AtSomeIndex (directives_of (take l.directive-index l.directives)) (λ i d. UseBreaks (place_at (schema_tree l.judging.schema.now)) (judged (schema_tree l.judging.schema.now)) (variables_of l.judging.variables.now) l.location d f))
