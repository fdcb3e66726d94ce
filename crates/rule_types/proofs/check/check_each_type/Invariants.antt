use Rattle.std.proofs.Common.{◌≡◌, map}
use Rattle.fault_data.specs.FaultView.{faults_of}
use Rattle.fault_data.specs.Room.{◌⊕◌}
use Rattle.rule_types.specs.FaultLists.{types_faults}
use Rattle.rule_types.specs.Trees.{schema_of}
use Rattle.rule_types.proofs.check.check_each_type.Given as goal

abbrev pub invariant-loop-name : goal.invariant-loop-name
invariant-loop-name l = faults_of l.faults ≡ faults_of l.fn.faults ⊕ types_faults (schema_of l.judging) (map (λ e. (e.0.now, e.1.now)) l.yielded)
