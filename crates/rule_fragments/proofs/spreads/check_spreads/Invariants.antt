use Rattle.std.proofs.Common.{◌≡◌, map, take}
use Rattle.std.specs.List.{flat_map}
use Rattle.fault_data.specs.FaultView.{faults_of}
use Rattle.rule_definitions.specs.Room.{◌⊕◌}
use Rattle.rule_reach.specs.Reach.{member_of, meant_fragments}
use Rattle.rule_fragments.specs.Listed.{undefined_fragment}
use Rattle.rule_fragments.proofs.spreads.check_spreads.Given as goal

abbrev pub invariant-loop-selection : goal.invariant-loop-selection
invariant-loop-selection l = faults_of l.faults ≡ faults_of l.fn.faults ⊕ flat_map (λ e. undefined_fragment (meant_fragments l.fragments) e.1) (map member_of (take l.selection-index l.selection-items))
