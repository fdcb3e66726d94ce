use Rattle.std.proofs.Common.{◌≡◌, take}
use Rattle.schema_components.specs.Lists.{each_place}
use Rattle.rule_values.specs.in_fault_data.FaultView.{faults_of}
use Rattle.rule_values.specs.in_fault_data.Room.{◌⊕◌}
use Rattle.rule_values.specs.in_rule_definitions.Names.{argument_name}
use Rattle.rule_values.specs.Firsts.{AreFirsts}
use Rattle.rule_arguments.specs.Trees.{arguments_of}
use Rattle.rule_arguments.specs.UseFaults.{repeated_argument}
use Rattle.rule_arguments.proofs.given.tell_arguments_again.Given as goal

abbrev pub invariant-loop-argument : goal.invariant-loop-argument
invariant-loop-argument l = record {
  told : faults_of l.faults ≡ faults_of l.fn.faults ⊕ each_place repeated_argument (arguments_of (take l.argument-index l.given));
  noted : AreFirsts argument_name (λ i a. a.place) l.places (arguments_of (take l.argument-index l.given));
}
