use Rattle.std.proofs.Common.{take}
use Rattle.fault_data.specs.Adds.{Adds}
use Rattle.rule_definitions.specs.Words.{AtSomeIndex}
use Rattle.rule_arguments.specs.in_rule_values.Wanting.{variables_of}
use Rattle.rule_arguments.specs.Alone.{DirectivesAloneBreak}
use Rattle.rule_selections.proofs.alone.check_variables_alone.Given as goal

abbrev pub invariant-loop-variable : goal.invariant-loop-variable
invariant-loop-variable l = Adds l.fn.faults l.faults (λ f. AtSomeIndex (variables_of (take l.variable-index l.variables)) (λ i x. DirectivesAloneBreak x.it.directives f))
