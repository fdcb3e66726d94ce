use Rattle.std.proofs.Common.{◌≡◌, take}
use Rattle.std.specs.List.{flat_map}
use Rattle.tree_directives.specs.DirectiveTree.{input_value_trees}
use Rattle.rule_values.specs.in_fault_data.FaultView.{faults_of}
use Rattle.rule_values.specs.in_fault_data.Room.{◌⊕◌}
use Rattle.rule_arguments.specs.Trees.{taker_of}
use Rattle.rule_arguments.specs.UseFaults.{required_argument}
use Rattle.rule_arguments.proofs.taken.tell_required_arguments.Given as goal

abbrev pub invariant-loop-definition : goal.invariant-loop-definition
invariant-loop-definition l = faults_of l.faults ≡ faults_of l.fn.faults ⊕ flat_map (required_argument (taker_of l.taker)) (input_value_trees (take l.definition-index l.definitions))
