use Rattle.rule_fragments.proofs.Thinning.{IsKept}
use Rattle.rule_fragments.proofs.thinned.thinned_set.Given as goal

abbrev pub invariant-loop-selection : goal.invariant-loop-selection
invariant-loop-selection l = IsKept l.deferred l.selection-items l.selection-index l.kept
