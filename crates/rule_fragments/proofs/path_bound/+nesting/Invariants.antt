use Rattle.std.proofs.Common.{◌≡◌, false, take}
use Rattle.std.specs.List.{list_any}
use Rattle.rule_fragments.specs.Nested.{deeper_of}
use Rattle.rule_selection_queries.specs.Lent.{lent}
use Rattle.rule_fragments.proofs.path_bound.+nesting.Given as goal

abbrev pub invariant-nests_deeper-loop-selection : goal.invariant-nests_deeper-loop-selection
invariant-nests_deeper-loop-selection l = list_any (λ s. deeper_of l.bound (lent s)) (take l.selection-index l.set.selections.items) ≡ false
