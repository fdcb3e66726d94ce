use Rattle.std.proofs.Common.{◌+◌, ◌≤◌, length, sym, subst}
use Rattle.rule_fragments.proofs.Thinning.{IsKept, kept_none, kept_more, left_out, all_kept}
use Rattle.rule_fragments.proofs.thinned.thinned_set.Goals.{then-not-is_quiet+in_ok-clone-2+in_ok-push, else-not-is_quiet}
use Rattle.rule_fragments.proofs.thinned.thinned_set.Goals as goal

pub loop-selection-init : goal.loop-selection-init
loop-selection-init c = kept_none c.args.deferred c.deref-selection-items.result.now c.new-kept.result _ c.new-kept.ensures

pub returns : goal.returns
returns c =
    let value = c.deref-selection-items.ensures.value in
    let i = c.loop-selection.selection-index in
    all_kept c.args.deferred c.args.set.now c.loop-selection.kept i (subst (λ l. length l ≤ i) value c.loop-selection-test.false) (subst (λ l. IsKept c.args.deferred l i c.loop-selection.kept) value c.loop-selection.invariant)

pub loop-selection-preserved : goal.loop-selection-preserved
loop-selection-preserved c =
    let d = c.args.deferred in
    let ss = c.deref-selection-items.result.now in
    let i = c.loop-selection.selection-index in
    let x = c.selection-item.result in
    let old = c.loop-selection.kept in
    elim c.if-not-is_quiet.branch [
      | then-not-is_quiet+in_ok-clone-2+in_ok-push w ↦ subst (IsKept d ss (i + 1)) (sym w.kept-is)
          (kept_more d ss i x c.loop-selection-test.true c.selection-item.is old w.push.new.self w.in_ok-clone-2.field-0 (sym w.if-not-is_quiet.ensures) w.in_ok-clone-2.ensures.cases w.in_ok-push.ensures.set c.loop-selection.invariant)
      | else-not-is_quiet w ↦ subst (IsKept d ss (i + 1)) (sym w.kept-is) (left_out d ss i x c.loop-selection-test.true c.selection-item.is old (sym w.if-not-is_quiet.ensures) c.loop-selection.invariant)
    ]
