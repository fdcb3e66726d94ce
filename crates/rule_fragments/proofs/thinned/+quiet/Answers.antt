use Rattle.std.proofs.Common.{◌<◌, ◌≤◌, ◌≡◌, length, get_or, sym, subst}
use Rattle.rule_fragments.proofs.Thinning.{noisy_here, none_noisy}
use Rattle.rule_fragments.proofs.thinned.+quiet.Goals as goal

pub are_quiet-returns-then-not-is_quiet : goal.are_quiet-returns-then-not-is_quiet
are_quiet-returns-then-not-is_quiet t c =
    let i = c.loop-selection.selection-index in
    let x = c.selection-item.result in
    let value = c.deref-selection-items.ensures.value in
    noisy_here c.args.deferred c.args.set.now i x (subst (λ l. i < length l) value c.loop-selection-test.true) (subst (λ l. x ≡ get_or l i x) value c.selection-item.is) (sym c.if-not-is_quiet.ensures)

pub are_quiet-returns : goal.are_quiet-returns
are_quiet-returns t c =
    none_noisy c.args.deferred c.args.set.now c.loop-selection.selection-index (subst (λ l. length l ≤ c.loop-selection.selection-index) c.deref-selection-items.ensures.value c.loop-selection-test.false) c.loop-selection.invariant
