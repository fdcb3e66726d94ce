use Rattle.std.proofs.Common.{◌≡◌, map}
use Rattle.fault_data.specs.FaultView.{faults_of}
use Rattle.fault_data.specs.Room.{◌⊕◌}
use Rattle.rule_types.specs.FaultLists.{each_input_faults}
use Rattle.rule_types.specs.Trees.{schema_of}
use Rattle.rule_types.proofs.members.check_each_input_field.Given as goal

abbrev pub invariant-loop-field_name : goal.invariant-loop-field_name
invariant-loop-field_name l = faults_of l.faults ≡ faults_of l.fn.faults ⊕ each_input_faults (schema_of l.judging) (map (λ e. (e.0.now, e.1.now)) l.yielded)
