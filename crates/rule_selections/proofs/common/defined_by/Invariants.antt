use Rattle.rule_reach.specs.in_typed_operations.DocumentView.{operation_meant}
use Rattle.rule_arguments.specs.in_rule_values.Wanting.{variables_of}
use Rattle.rule_selections.specs.Settled.{AreThoseDefined}
use Rattle.rule_selections.proofs.common.defined_by.Given as goal

abbrev pub invariant-loop-variable : goal.invariant-loop-variable
invariant-loop-variable l = AreThoseDefined (operation_meant l.operation).variables (variables_of l.common) (variables_of l.kept.items)
