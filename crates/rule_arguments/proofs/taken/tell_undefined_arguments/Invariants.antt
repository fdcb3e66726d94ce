use Rattle.std.proofs.Common.{◌≡◌, take}
use Rattle.std.specs.List.{flat_map}
use Rattle.tree_directives.specs.DirectiveTree.{input_value_trees}
use Rattle.rule_values.specs.in_fault_data.FaultView.{faults_of}
use Rattle.rule_values.specs.in_fault_data.Room.{◌⊕◌}
use Rattle.rule_arguments.specs.Trees.{arguments_of, taker_of}
use Rattle.rule_arguments.specs.UseFaults.{undefined_argument}
use Rattle.rule_arguments.proofs.taken.tell_undefined_arguments.Given as goal

abbrev pub invariant-loop-argument : goal.invariant-loop-argument
invariant-loop-argument l = faults_of l.faults ≡ faults_of l.fn.faults ⊕ flat_map (undefined_argument (taker_of l.taker) (input_value_trees l.taker.definitions.now)) (arguments_of (take l.argument-index l.taker.given.now))
