use Rattle.std.proofs.Common.{◌≡◌, ◌++◌, true, take}
use Rattle.std.specs.List.{flat_map}
use Rattle.rule_selection_queries.specs.Inside.{contents_of}
use Rattle.rule_selection_queries.specs.Stays.{stays}
use Rattle.rule_selection_queries.specs.Lent.{lent, lent_all}
use Rattle.rule_selection_queries.proofs.always.+staying.Given as goal

abbrev pub invariant-push_staying-loop-selection : goal.invariant-push_staying-loop-selection
invariant-push_staying-loop-selection l = lent_all l.found.items ≡ lent_all l.fn.found.items ++ flat_map (λ s. contents_of true stays (lent s)) (take l.selection-index l.set.selections.items)
