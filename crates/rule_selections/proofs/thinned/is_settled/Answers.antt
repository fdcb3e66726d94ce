use Rattle.std.proofs.Common.{◌∙◌, Bool, IsTrue, sym}
use Rattle.std.proofs.lemmas.Result.{IfOk-weaker}
use Rattle.document_typed_selections.specs.TypedTree.{typed_selection_tree, typed_set_tree}
use Rattle.spec_document.specs.MeantTree.{meant, meant_of_set}
use Rattle.rule_selections.specs.Settled.{IsQuiet}
use Rattle.rule_selections.specs.Telling.{terms_of, member_there, SettlesIfLeft}
use Rattle.rule_selections.proofs.Leaving.{settled_if}
use Rattle.rule_selections.proofs.Thinning.{none_meant}
use Rattle.rule_selections.proofs.thinned.is_settled.Goals as goal

pub returns-then-is_empty : goal.returns-then-is_empty
returns-then-is_empty c =
    let s = terms_of c.args.common.now in
    let t = c.args.ty.now.text in
    let x = meant (typed_selection_tree c.args.selection.now) in
    let left = typed_set_tree c.args.left.now in
    let none = sym (none_meant left) ∙ sym c.is_empty.ensures ∙ c.if-is_empty.true in
    IfOk-weaker c.may_go.result (λ (b : Bool). IsTrue b → IsQuiet s (member_there c.args.ty.now c.args.selection.now)) (λ (b : Bool). IsTrue b → SettlesIfLeft s c.args.ty.now c.args.selection.now c.args.left.now)
    (λ b quiet is l. settled_if s t x (meant_of_set left) none (quiet is) l) c.may_go.ensures
