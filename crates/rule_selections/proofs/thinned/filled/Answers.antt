use Rattle.std.proofs.Common.{◌≡◌, ◌∙◌, None, ap, sym}
use Rattle.graphql_names.specs.NameValue.{NameValue}
use Rattle.graphql_names.specs.Placed.{Place, Text, name_tree}
use Rattle.document_typed_selections.specs.TypedTree.{typed_set, no_typed, typed_then, typed_set_tree, set_type}
use Rattle.document_typed_selections.specs.TypedParts.{set_and, bare_inline}
use Rattle.document_typed_selections.proofs.TypedTrees.{typed_set_tree_out}
use Rattle.spec_document.specs.MeantTree.{meant_of_set}
use Rattle.rule_selections.proofs.Thinning.{filled_by_filler}
use Rattle.rule_selections.proofs.thinned.filled.Goals as goal

pub returns : goal.returns
returns c =
    let whole = c.args.whole.now in
    let w = typed_set_tree whole in
    let l = typed_set_tree c.args.left in
    let made : typed_set_tree c.push.new.self ≡ typed_set (set_type w) (typed_then (bare_inline None (set_type w)) no_typed) =
    c.in_ok-push.ensures.set
    ∙ (λ i. set_and (typed_then (c.in_ok-filler.ensures i) no_typed) (c.new-set.ensures i))
    ∙ ap (λ (n : NameValue). typed_set (name_tree n) (typed_then (bare_inline None (name_tree whole.ty)) no_typed)) c.in_ok-clone.ensures.same
    ∙ ap (λ (u : Text Place). typed_set u (typed_then (bare_inline None u) no_typed)) (sym (ap set_type (typed_set_tree_out whole))) in
    ap meant_of_set made ∙ filled_by_filler w l (sym c.is_empty-2.ensures ∙ c.if-not-is_empty.false) (sym c.is_empty.ensures ∙ c.if-is_empty.false)
