use Rattle.std.proofs.Common.{length}
use Rattle.rule_selections.specs.Telling.{terms_of}
use Rattle.rule_selections.proofs.SetsWithin.{LastThinned}
use Rattle.rule_selections.proofs.thinned.thinned_sets.Given as goal

abbrev pub invariant-loop-next : goal.invariant-loop-next
invariant-loop-next l = LastThinned (terms_of l.common) l.fn.sets.items l.sets.items l.thin.items

abbrev pub decreases-loop-next : goal.decreases-loop-next
decreases-loop-next l = length l.sets.items
