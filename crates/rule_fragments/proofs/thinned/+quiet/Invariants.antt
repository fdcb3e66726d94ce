use Rattle.std.proofs.Common.{◌≡◌, false, not, take}
use Rattle.std.specs.List.{list_any}
use Rattle.rule_selection_queries.specs.Lent.{lent}
use Rattle.rule_fragments.specs.Thinned.{is_quiet}
use Rattle.rule_fragments.proofs.thinned.+quiet.Given as goal

abbrev pub invariant-are_quiet-loop-selection : goal.invariant-are_quiet-loop-selection
invariant-are_quiet-loop-selection l = list_any (λ s. not (is_quiet l.deferred (lent s))) (take l.selection-index l.set.selections.items) ≡ false
