use Rattle.std.proofs.Common.{◌≤◌, length, true, subst}
use Rattle.rule_selection_queries.specs.Stays.{stays}
use Rattle.rule_selection_queries.specs.Lent.{lent_all}
use Rattle.rule_selection_queries.proofs.Sets.{contents_all}
use Rattle.rule_selection_queries.proofs.always.+staying.Goals as goal

pub push_staying-returns : goal.push_staying-returns
push_staying-returns t c =
    contents_all true stays c.args.set.now c.loop-selection.selection-index (lent_all c.args.found.now.items) (lent_all c.loop-selection.found.items)
    (subst (λ l. length l ≤ c.loop-selection.selection-index) c.deref-selection-items.ensures.value c.loop-selection-test.false) c.loop-selection.invariant
