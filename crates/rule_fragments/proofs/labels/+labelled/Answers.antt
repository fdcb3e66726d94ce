use Rattle.std.proofs.Common.{◌≤◌, length, true, subst}
use Rattle.rule_fragments.specs.Labels.{values_meant, labels_of}
use Rattle.rule_selection_queries.specs.Stays.{all_stay}
use Rattle.rule_selection_queries.proofs.Sets.{told_contents}
use Rattle.rule_fragments.proofs.labels.+labelled.Goals as goal

pub push_labels_in-returns : goal.push_labels_in-returns
push_labels_in-returns t c =
    told_contents true all_stay labels_of c.args.set.now c.loop-selection.selection-index (values_meant c.args.found.now.items) (values_meant c.loop-selection.found.items)
    (subst (λ l. length l ≤ c.loop-selection.selection-index) c.deref-selection-items.ensures.value c.loop-selection-test.false) c.loop-selection.invariant
