-- Where the fields of an operation merge, the algorithm answers true at every depth.
use Rattle.std.proofs.Common.{◌≡◌, ◌⊎◌, ℕ, zero, suc, List, subst, sym, ◌∙◌, inl, inr}
use Rattle.rule_definitions.specs.Judged.{Judged}
use Rattle.rule_definitions.specs.Names.{named_in}
use Rattle.rule_document_definitions.specs.Selected.{own}
use Rattle.rule_document_definitions.specs.PossibleTypes.{IsComposite}
use Rattle.rule_document_definitions.specs.Merging.{SameInner, SameKey, MayShare, FieldsMerge}
use Rattle.book_validity.specs.Words.{Document, Operation, Selection, Field}
use Rattle.book_validity.specs.FieldSelectionMerging.{IsScalarOrEnum, merged_set, EachPair, SameResponseShape, FieldsInSetCanMerge, CanMerge}
use Rattle.book_validity.specs.MergingLaws.{IsTypedField, FieldsAreTyped}
use Rattle.book_validity.proofs.TypeFacts.{unwrap, may_share}
use Rattle.book_validity.proofs.SetFacts.{IsReachedField, IsGoing, meets_reached, going_own, going_merged, key_same, key_turned, share_same, share_turned}

module _ (s : Judged) (d : Document) (o : Operation) (merge : FieldsMerge s d o) (typed : FieldsAreTyped s d o) where
  typed_field : (f : Field) → IsReachedField d o f → IsTypedField s f
  typed_field f (x, (r, e)) = typed x r f e

  -- the names inside two types that are alike: both scalars or enums, or both composite
  inside : (a b : List ℕ) (Deeper : Type 0) → SameInner s a b → IsScalarOrEnum s a ⊎ IsComposite s a → Deeper
      → ((IsScalarOrEnum s a ⊎ IsScalarOrEnum s b) × (a ≡ b)) ⊎ ((IsComposite s a × IsComposite s b) × Deeper)
  inside a b Deeper (inl e) (inl l) deeper = inl (inl l, e)
  inside a b Deeper (inl e) (inr c) deeper = inr ((c, subst (IsComposite s) e c), deeper)
  inside a b Deeper (inr c) k deeper = inr (c, deeper)

  shapes : (n : ℕ) (set : List Selection) → IsGoing d o SameKey set → EachPair d set (λ f g. SameResponseShape s d n f g)
  shapes zero set going = λ name f g in_f in_g. tt
  shapes (suc n) set going = λ name f g in_f in_g.
      let t : SameKey f g = in_f.1 ∙ sym in_g.1 in
      let meet = going f g in_f.0 in_g.0 t in
      let same = merge.shapes f g meet in
      unwrap f.definition.ty g.definition.ty _ same.0 (inside (named_in f.definition.ty) (named_in g.definition.ty) _ same.1 (typed_field f (meets_reached d o SameKey f g meet)).returns
      (shapes n (merged_set f g) (going_merged d o SameKey key_same key_turned set going f g in_f.0 in_g.0 t)))

  sets : (n : ℕ) (set : List Selection) → IsGoing d o SameKey set → IsGoing d o (MayShare s) set → FieldsInSetCanMerge s d n set
  sets zero set by_key by_parent = tt
  sets (suc n) set by_key by_parent = λ name f g in_f in_g.
      let t : SameKey f g = in_f.1 ∙ sym in_g.1 in
      let reached : IsReachedField d o f × IsReachedField d o g = (
        meets_reached d o SameKey f g (by_key f g in_f.0 in_g.0 t),
        meets_reached d o SameKey g f (by_key g f in_g.0 in_f.0 (sym t)),
      ) in (
        shapes n set by_key name f g in_f in_g,
        λ parents.
            let u : MayShare s f g = may_share s f g (typed_field f reached.0).parent (typed_field g reached.1).parent t parents in
            let agree = merge.selections f g (by_parent f g in_f.0 in_g.0 u) in (
              agree.0,
              (
                agree.1,
                sets n (merged_set f g) (going_merged d o SameKey key_same key_turned set by_key f g in_f.0 in_g.0 t)
                    (going_merged d o (MayShare s) (share_same s) (share_turned s) set by_parent f g in_f.0 in_g.0 u),
              ),
            ),
      )

  pub can_merge : CanMerge s d (own o)
  can_merge n = sets n (own o) (going_own d o SameKey) (going_own d o (MayShare s))
