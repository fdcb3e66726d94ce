-- One condition more that may apply.
use Rattle.std.proofs.Common.{◌≡◌, ◌∙◌, ℕ, false, List, [], ◌∷◌, sym, subst, inl, inr, Contains, true≢false}
use Rattle.indexmap.specs.IndexMap.{IndexMap}
use Rattle.indexmap.specs.IndexSet.{IndexSet}
use Rattle.graphql_names.specs.NameValue.{NameValue}
use Rattle.graphql_names.specs.Placed.{Place}
use Rattle.schema_types.specs.SchemaTree.{SchemaTree}
use Rattle.rule_definitions.specs.Judged.{Judged, judged}
use Rattle.rule_definitions.proofs.Lists.{not_in_nil, Contains-cons}
use Rattle.rule_document_definitions.specs.PossibleTypes.{IsNotComposite, MayApply}
use Rattle.rule_fragments.specs.Applying.{MayApplyWhereNoted}
use Rattle.rule_fragments.specs.Held.{noted_in, AddsNotes}
use Rattle.rule_fragments.specs.Listed.{is_no_composite}
use Rattle.rule_fragments.proofs.Targeted.{not_composite}

module _ (s : Judged) {S T : Type 0} where
  pub none_apply : (m : IndexMap NameValue (IndexSet NameValue S) T) → m.entries ≡ [] → MayApplyWhereNoted s m
  none_apply m empty t c h = absurd (not_in_nil c (subst (λ (es : List (NameValue × IndexSet NameValue S)). Contains (noted_in es t) c) empty h))

  pub one_applies : (old new : IndexMap NameValue (IndexSet NameValue S) T) (t c : List ℕ) → (IsNotComposite s c → ⊥) → MayApply s t c → AddsNotes old new ((t, c) ∷ []) → MayApplyWhereNoted s old → MayApplyWhereNoted s new
  one_applies old new t c composite applies adds so_far n k h = elim ((adds n k).0 h) [
    | inl d ↦ so_far n k d
    | inr p ↦ elim (Contains-cons (t, c) [] (n, k) p) [
      | inl e ↦ subst (λ (q : List ℕ × List ℕ). (IsNotComposite s q.1 → ⊥) × MayApply s q.0 q.1) e (composite, applies)
      | inr none ↦ absurd (not_in_nil (n, k) none)
    ]
  ]

pub is_composite : (s : SchemaTree Place) (c : List ℕ) → is_no_composite s c ≡ false → IsNotComposite (judged s) c → ⊥
is_composite s c is h = true≢false (sym ((not_composite s c).1 h) ∙ is)
