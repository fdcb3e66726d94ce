use Rattle.std.proofs.Common.{◌<◌, length, arith}
use Rattle.rule_selections.specs.Telling.{terms_of}
use Rattle.rule_selections.proofs.SetsWithin.{none_yet, next_taken, all_taken}
use Rattle.rule_selections.proofs.thinned.thinned_set.Goals as goal

pub loop-selection-init : goal.loop-selection-init
loop-selection-init c = none_yet (terms_of c.args.common.now) c.args.set.now.ty _ c.deref-selection-items.result.now c.args.thin.now.items c.new-kept.result c.new-kept.ensures c.in_ok-clone.ensures.same

pub loop-selection-preserved : goal.loop-selection-preserved
loop-selection-preserved c =
    let xs = c.deref-selection-items.result.now in
    let i = c.loop-selection.selection-index in
    let h : i < length xs = omega arith in
    next_taken (terms_of c.args.common.now) c.args.set.now.ty xs i c.selection-item.result c.args.thin.now.items c.loop-selection.thin.items c.keep_unless_settled.new.thin.items
    c.loop-selection.kept c.keep_unless_settled.new.kept h c.selection-item.is c.in_ok-keep_unless_settled.ensures c.loop-selection.invariant

pub returns : goal.returns
returns c =
    all_taken (terms_of c.args.common.now) c.args.set.now c.deref-selection-items.result.now c.loop-selection.selection-index c.args.thin.now.items c.loop-selection.thin.items c.loop-selection.kept
    c.loop-selection-test.false c.deref-selection-items.ensures.value c.loop-selection.invariant
