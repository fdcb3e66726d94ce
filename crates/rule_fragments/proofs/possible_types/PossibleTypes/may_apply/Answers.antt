use Rattle.std.proofs.Common.{◌≡◌, ◌∙◌, false, is_some, slice_get, sym, subst, bytes_eq}
use Rattle.std.specs.Map.{lookup, values_of}
use Rattle.std.proofs.lemmas.Result.{IfOk-weaker}
use Rattle.graphql_names.specs.NameValue.{NameValue}
use Rattle.rule_fragments.specs.Held.{share_at, may_apply}
use Rattle.rule_fragments.proofs.Seen.{applies_at, no_parent, no_condition}
use Rattle.rule_fragments.proofs.possible_types.PossibleTypes.may_apply.Goals as goal

pub returns-in_default-clause-applies : goal.returns-in_default-clause-applies
returns-in_default-clause-applies c =
    let n = c.args.parent.now.text in
    let d = c.args.condition.now.text in
    subst (λ p. false ≡ may_apply p n d) c.self.view_is
    (no_parent c.self.inside.objects.value.entries n d (sym c.eq.ensures ∙ c.if-eq.false)
    (c.in_default.ensures.found ∙ (λ i. is_some (lookup (λ (a : NameValue). bytes_eq n a.text) (c.as_ref.ensures i).entries))))

pub returns-in-None-clause-applies : goal.returns-in-None-clause-applies
returns-in-None-clause-applies c =
    let n = c.args.parent.now.text in
    let d = c.args.condition.now.text in
    subst (λ p. false ≡ may_apply p n d) c.self.view_is
    (no_condition c.self.inside.objects.value.entries n d (sym c.eq.ensures ∙ c.if-eq.false)
    (c.in-None.ensures.found ∙ (λ i. is_some (lookup (λ (a : NameValue). bytes_eq d a.text) (c.as_ref-2.ensures i).entries))))

pub returns-in-Some-get_index_of-clause-applies : goal.returns-in-Some-get_index_of-clause-applies
returns-in-Some-get_index_of-clause-applies c =
    let n = c.args.parent.now.text in
    let d = c.args.condition.now.text in
    let es = c.self.inside.objects.value.entries in
    let i = c.in-Some.here in
    let j = c.in-Some-get_index_of.there in
    let here : slice_get (values_of es) i ≡ lookup (λ (a : NameValue). bytes_eq n a.text) es =
    (λ k. slice_get (values_of (sym c.as_ref.ensures k).entries) i) ∙ c.in-Some.ensures.value ∙ (λ k. lookup (λ (a : NameValue). bytes_eq n a.text) (c.as_ref.ensures k).entries) in
    let there : slice_get (values_of es) j ≡ lookup (λ (a : NameValue). bytes_eq d a.text) es =
    (λ k. slice_get (values_of (sym c.as_ref-2.ensures k).entries) j) ∙ c.in-Some-get_index_of.ensures.value ∙ (λ k. lookup (λ (a : NameValue). bytes_eq d a.text) (c.as_ref-2.ensures k).entries) in
    IfOk-weaker c.have_common.result _ _
    (λ r h. h ∙ (λ k. share_at (sym c.self.view_is k) i j) ∙ applies_at es n d (sym c.eq.ensures ∙ c.if-eq.false) i j here there ∙ (λ k. may_apply (c.self.view_is k) n d))
    c.have_common.ensures.common
