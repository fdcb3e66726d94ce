use Rattle.std.proofs.Common.{◌≤◌, length, map, subst}
use Rattle.rule_fragments.specs.SpreadViews.{fragment_entries, spread_view}
use Rattle.rule_fragments.proofs.Sets.{references_all}
use Rattle.rule_fragments.proofs.spread_graph.+spreads.Goals as goal

pub add_spreads-returns : goal.add_spreads-returns
add_spreads-returns t c =
    references_all (fragment_entries c.args.fragments.now) c.args.set.now c.loop-selection.selection-index (map spread_view c.args.references.now.items) (map spread_view c.loop-selection.references.items)
    (subst (λ l. length l ≤ c.loop-selection.selection-index) c.deref-selection-items.ensures.value c.loop-selection-test.false) c.loop-selection.invariant
