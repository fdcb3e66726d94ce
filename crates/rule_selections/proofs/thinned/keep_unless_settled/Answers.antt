use Rattle.std.proofs.Common.{refl, inl, inr}
use Rattle.document_typed_selections.specs.TypedTree.{typed_selection_tree, typed_set_tree}
use Rattle.spec_document.specs.MeantTree.{meant, meant_of_set}
use Rattle.rule_selections.specs.Telling.{terms_of}
use Rattle.rule_selections.proofs.Leaving.{stays_with}
use Rattle.rule_selections.proofs.SetsWithin.{stays_whole, stays_by}
use Rattle.rule_selections.proofs.thinned.keep_unless_settled.Goals as goal

pub returns-in_default : goal.returns-in_default
returns-in_default c =
    stays_whole (terms_of c.args.common.now) c.args.ty.now c.args.selection.now c.in_ok-clone.field-0 c.left_below.result c.args.thin.now.items c.left_below.new.thin.items c.args.kept.now c.push.new.self
    c.left_below.ensures c.in_ok-clone.ensures.cases c.in_ok-push.ensures.set

pub returns-then-branch : goal.returns-then-branch
returns-then-branch c =
    stays_by (terms_of c.args.common.now) c.args.ty.now c.args.selection.now c.left_below.result c.in-Some.left c.args.thin.now.items c.left_below.new.thin.items c.args.kept.now c.args.kept.now
    c.left_below.ensures c.in-Some.is (λ l. inr (refl, c.in_ok-is_settled.ensures c.if-branch.true l))

pub returns : goal.returns
returns c =
    let s = terms_of c.args.common.now in
    let x = meant (typed_selection_tree c.args.selection.now) in
    let y = typed_selection_tree c.in_ok-selection_with.field-0 in
    let left = meant_of_set (typed_set_tree c.in-Some.left) in
    stays_by s c.args.ty.now c.args.selection.now c.left_below.result c.in-Some.left c.args.thin.now.items c.left_below.new.thin.items c.args.kept.now c.push-2.new.self
    c.left_below.ensures c.in-Some.is (λ l. inl (y, (c.in_ok-push-2.ensures.set, stays_with s x (meant y) left l c.in_ok-selection_with.ensures)))
