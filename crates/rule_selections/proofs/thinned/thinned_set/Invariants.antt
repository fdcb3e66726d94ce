use Rattle.rule_selections.specs.Telling.{terms_of}
use Rattle.rule_selections.proofs.SetsWithin.{IsTaken}
use Rattle.rule_selections.proofs.thinned.thinned_set.Given as goal

abbrev pub invariant-loop-selection : goal.invariant-loop-selection
invariant-loop-selection l = IsTaken (terms_of l.common) l.set.ty l.selection-items l.selection-index l.fn.thin.items l.thin.items l.kept
