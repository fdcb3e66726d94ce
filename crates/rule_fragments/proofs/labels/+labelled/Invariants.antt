use Rattle.std.proofs.Common.{◌≡◌, ◌++◌, take}
use Rattle.std.specs.List.{flat_map}
use Rattle.rule_fragments.specs.Labels.{values_meant, labels_at}
use Rattle.rule_selection_queries.specs.Lent.{lent}
use Rattle.rule_fragments.proofs.labels.+labelled.Given as goal

abbrev pub invariant-push_labels_in-loop-selection : goal.invariant-push_labels_in-loop-selection
invariant-push_labels_in-loop-selection l = values_meant l.found.items ≡ values_meant l.fn.found.items ++ flat_map (λ s. labels_at (lent s)) (take l.selection-index l.set.selections.items)
