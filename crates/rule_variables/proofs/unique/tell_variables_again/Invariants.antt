use Rattle.std.proofs.Common.{◌≡◌, take}
use Rattle.schema_components.specs.Lists.{each_place}
use Rattle.rule_definitions.specs.Names.{defined_name}
use Rattle.rule_arguments.specs.in_fault_data.FaultView.{faults_of}
use Rattle.rule_definitions.specs.Room.{◌⊕◌}
use Rattle.rule_arguments.specs.in_rule_values.Firsts.{AreFirsts}
use Rattle.rule_arguments.specs.in_rule_values.Wanting.{variables_of}
use Rattle.rule_variables.specs.VariableFaults.{repeated_variable}
use Rattle.rule_variables.proofs.unique.tell_variables_again.Given as goal

abbrev pub invariant-loop-variable : goal.invariant-loop-variable
invariant-loop-variable l = record {
  told : faults_of l.faults ≡ faults_of l.fn.faults ⊕ each_place repeated_variable (variables_of (take l.variable-index l.variables));
  noted : AreFirsts defined_name (λ i x. x.place) l.places (variables_of (take l.variable-index l.variables));
}
