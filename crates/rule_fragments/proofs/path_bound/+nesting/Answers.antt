use Rattle.std.proofs.Common.{◌<◌, ◌≤◌, ◌≡◌, length, get_or, sym, subst, ◌∙◌}
use Rattle.rule_fragments.proofs.DocumentSets.{deeper_here, deeper_none}
use Rattle.rule_fragments.proofs.path_bound.+nesting.Goals as goal

pub nests_deeper-returns-then-is_deeper : goal.nests_deeper-returns-then-is_deeper
nests_deeper-returns-then-is_deeper t c =
    let i = c.loop-selection.selection-index in
    let x = c.selection-item.result in
    let value = c.deref-selection-items.ensures.value in
    deeper_here c.args.bound c.args.set.now i x (subst (λ l. i < length l) value c.loop-selection-test.true) (subst (λ l. x ≡ get_or l i x) value c.selection-item.is) (sym c.is_deeper.ensures ∙ c.if-is_deeper.true)

pub nests_deeper-returns : goal.nests_deeper-returns
nests_deeper-returns t c =
    deeper_none c.args.bound c.args.set.now c.loop-selection.selection-index (subst (λ l. length l ≤ c.loop-selection.selection-index) c.deref-selection-items.ensures.value c.loop-selection-test.false) c.loop-selection.invariant
