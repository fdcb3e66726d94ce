use Rattle.std.proofs.Common.{◌≡◌, map}
use Rattle.fault_data.specs.FaultView.{faults_of}
use Rattle.rule_definitions.specs.Room.{◌⊕◌}
use Rattle.rule_cycles.specs.Numbers.{each_value}
use Rattle.rule_reach.specs.NotedNames.{noted_names}
use Rattle.rule_fragments.specs.Unused.{unused_fragment}
use Rattle.rule_fragments.specs.SpreadViews.{fragment_meant}
use Rattle.rule_fragments.proofs.unused.tell_unused.Given as goal

abbrev pub invariant-loop-fragment : goal.invariant-loop-fragment
invariant-loop-fragment l = faults_of l.faults ≡ faults_of l.fn.faults ⊕ each_value (λ n. unused_fragment (noted_names l.used) (fragment_meant n)) (map (λ e. (e.0.now, e.1.now)) l.yielded)
