use Rattle.std.proofs.Common.{map, take}
use Rattle.fault_data.specs.Adds.{Adds}
use Rattle.rule_definitions.specs.Words.{AtSomeIndex}
use Rattle.rule_reach.specs.Reach.{member_of}
use Rattle.rule_selections.specs.SelectionFaults.{SelectionAloneBreaks}
use Rattle.rule_selections.proofs.alone.check_each_selection_alone.Given as goal

abbrev pub invariant-loop-selection : goal.invariant-loop-selection
invariant-loop-selection l = Adds l.fn.faults l.faults (λ f. AtSomeIndex (map member_of (take l.selection-index l.selection-items)) (λ i e. SelectionAloneBreaks e f))
