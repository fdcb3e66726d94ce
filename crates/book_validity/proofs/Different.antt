-- Where pairs are of different fields and each set is looked at, the algorithm answers the same.
use Rattle.std.proofs.Common.{◌≡◌, ◌⊎◌, ◌∙◌, ℕ, zero, suc, List, refl, sym, ap, subst, inl, inr}
use Rattle.rule_definitions.specs.Judged.{Judged}
use Rattle.rule_definitions.specs.Names.{named_in}
use Rattle.rule_document_definitions.specs.Selected.{response_key, own}
use Rattle.rule_document_definitions.specs.PossibleTypes.{IsComposite}
use Rattle.rule_document_definitions.specs.Named.{FragmentsFoundByName}
use Rattle.rule_document_definitions.specs.SameValues.{SameArguments}
use Rattle.rule_document_definitions.specs.Merging.{Below, Starts, SameKey, MayShare, SameShape, SameName, SameNameAndArguments, FieldsMerge}
use Rattle.rule_document_definitions.proofs.Positions.{one_reached_field}
use Rattle.rule_document_definitions.proofs.Reflexive.{shape_refl, selection_refl}
use Rattle.book_validity.specs.Words.{Document, Operation, Selection, Field}
use Rattle.book_validity.specs.FieldSelectionMerging.{IsScalarOrEnum, selection_set, merged_set, IsIn, SameResponseShape, FieldsInSetCanMerge, DoItsFieldsMerge}
use Rattle.book_validity.specs.OfDifferent.{AreDifferent, EachDifferentPair, SameResponseShapeOfDifferent, FieldsInSetCanMergeOfDifferent, AnySetCanMerge}
use Rattle.book_validity.specs.MergingLaws.{FieldsAreTyped}
use Rattle.book_validity.proofs.TypeFacts.{unwrap, unwrapped, may_meet}
use Rattle.book_validity.proofs.SetFacts.{IsReachedField, started, handed_down, merged_left, merged_right, none_below}
use Rattle.book_validity.proofs.Back.{ends}
use Rattle.book_validity.proofs.SamePosition.{same_or_not}

-- ---- onward: of all pairs, so of different ones

module _ (s : Judged) (d : Document) where
  fewer_shapes : (n : ℕ) (f g : Field) → SameResponseShape s d n f g → SameResponseShapeOfDifferent s d n f g
  fewer_shapes zero f g same = tt
  fewer_shapes (suc n) f g same =
      let u = unwrapped f.definition.ty g.definition.ty _ same in
      unwrap f.definition.ty g.definition.ty _ u.0 (elim u.1 [
        | inl leaf ↦ inl leaf
        | inr c ↦ inr (c.0, λ name x y in_x in_y different. fewer_shapes n x y (c.1 name x y in_x in_y))
      ])

  fewer_sets : (n : ℕ) (set : List Selection) → FieldsInSetCanMerge s d n set → FieldsInSetCanMergeOfDifferent s d n set
  fewer_sets zero set can = tt
  fewer_sets (suc n) set can = λ name f g in_f in_g different.
      let here = can name f g in_f in_g in
      (fewer_shapes n f g here.0, λ parents. let h = here.1 parents in (h.0, (h.1.0, fewer_sets n (merged_set f g) h.1.1)))

  pub any_set : (o : Operation) → DoItsFieldsMerge s d o → AnySetCanMerge s d o
  any_set o all set reached n = fewer_sets n set (all set reached n)

-- ---- back: two chains are in one set where they part, and again where they have come together

module _ (s : Judged) (d : Document) (o : Operation) (any : AnySetCanMerge s d o) (typed : FieldsAreTyped s d o) (named : FragmentsFoundByName d) where
  -- the same field, or two of which this holds
  abbrev SameOr : (Field → Field → Type 0) → Field → Field → Type 0
  SameOr Holds f g = (IsReachedField d o f × IsReachedField d o g) × ((f ≡ g) ⊎ Holds f g)

  same_or_holds : (Holds : Field → Field → Type 0) (f g : Field) → IsReachedField d o f → IsReachedField d o g → (AreDifferent f g → Holds f g) → SameOr Holds f g
  same_or_holds Holds f g (x, (r, e)) (y, (q, k)) holds = (
    ((x, (r, e)), (y, (q, k))),
    elim (same_or_not f.position g.position) [
      | inl same ↦ inl (one_reached_field d o named x y f g r q e k same)
      | inr differ ↦ inr (holds differ)
    ],
  )

  -- the set of a reached field is looked at
  field_set : (f : Field) → IsReachedField d o f → (n : ℕ) → FieldsInSetCanMergeOfDifferent s d n (selection_set f)
  field_set f (x, (r, e)) = any (selection_set f) (inr (x, (r, inl (f, (e, refl)))))

  leaf_below : (f x : Field) → IsReachedField d o f → IsScalarOrEnum s (named_in f.definition.ty) → Below d f x → ⊥
  leaf_below f x (y, (r, e)) l b = none_below d f x ((typed y r f e).leaf l) b

  -- ---- shapes

  abbrev Shapes : Field → Field → Type 0
  Shapes f g = (n : ℕ) → SameResponseShapeOfDifferent s d n f g

  shapes_in : (set : List Selection) → ((n : ℕ) → FieldsInSetCanMergeOfDifferent s d n set) → (x y : Field) → IsIn d set x → IsIn d set y → SameKey x y → AreDifferent x y → Shapes x y
  shapes_in set all x y in_x in_y t differ n = (all (suc n) (response_key x) x y (in_x, refl) (in_y, sym t) differ).0

  shape_down : (f g x y : Field) → SameOr Shapes f g → Below d f x → Below d g y → SameKey x y → SameOr Shapes x y
  shape_down f g x y ((rf, rg), inl same) b b' t =
      same_or_holds Shapes x y (handed_down d o f x rf b) (handed_down d o g y rg b') (shapes_in (selection_set f) (field_set f rf) x y b (subst (λ (h : Field). Below d h y) (sym same) b') t)
  shape_down f g x y ((rf, rg), inr all) b b' t =
      same_or_holds Shapes x y (handed_down d o f x rf b) (handed_down d o g y rg b') (λ differ n. deeper differ n (unwrapped f.definition.ty g.definition.ty _ (all (suc n))).1)
    where
      deeper : AreDifferent x y → (n : ℕ) → (((IsScalarOrEnum s (named_in f.definition.ty) ⊎ IsScalarOrEnum s (named_in g.definition.ty)) × (named_in f.definition.ty ≡ named_in g.definition.ty))
          ⊎ ((IsComposite s (named_in f.definition.ty) × IsComposite s (named_in g.definition.ty)) × EachDifferentPair s d (merged_set f g) (λ v w. SameResponseShapeOfDifferent s d n v w)))
          → SameResponseShapeOfDifferent s d n x y
      deeper differ n (inl (inl l, e)) = absurd (leaf_below f x rf l b)
      deeper differ n (inl (inr l, e)) = absurd (leaf_below g y rg l b')
      deeper differ n (inr (c, each)) = each (response_key x) x y (merged_left d f g x b, refl) (merged_right d f g y b', sym t) differ

  shape_start : (f g : Field) → Starts d o f → Starts d o g → SameKey f g → SameOr Shapes f g
  shape_start f g p q t = same_or_holds Shapes f g (started d o f p) (started d o g q) (shapes_in (own o) (any (own o) (inl refl)) f g p q t)

  shape_end : (f g : Field) → SameOr Shapes f g → SameShape s f g
  shape_end f g (r, inl same) = subst (SameShape s f) same (shape_refl s f)
  shape_end f g (r, inr all) = let u = unwrapped f.definition.ty g.definition.ty _ (all 1) in (u.0, elim u.1 [ inl leaf ↦ inl leaf.1 | inr c ↦ inr c.0 ])

  -- ---- names and arguments

  abbrev Selections : Field → Field → Type 0
  Selections f g = SameNameAndArguments f g × ((n : ℕ) → FieldsInSetCanMergeOfDifferent s d n (merged_set f g))

  selections_in : (set : List Selection) → ((n : ℕ) → FieldsInSetCanMergeOfDifferent s d n set) → (x y : Field) → IsIn d set x → IsIn d set y → MayShare s x y → AreDifferent x y → Selections x y
  selections_in set all x y in_x in_y t differ = (((at 0).0, (at 0).1.0), λ n. (at n).1.1)
    where
      at : (n : ℕ) → SameName x y × (SameArguments x.head.arguments y.head.arguments × FieldsInSetCanMergeOfDifferent s d n (merged_set x y))
      at n = (all (suc n) (response_key x) x y (in_x, refl) (in_y, sym t.0) differ).1 (may_meet s x y t)

  selection_down : (f g x y : Field) → SameOr Selections f g → Below d f x → Below d g y → MayShare s x y → SameOr Selections x y
  selection_down f g x y ((rf, rg), inl same) b b' t =
      same_or_holds Selections x y (handed_down d o f x rf b) (handed_down d o g y rg b') (selections_in (selection_set f) (field_set f rf) x y b (subst (λ (h : Field). Below d h y) (sym same) b') t)
  selection_down f g x y ((rf, rg), inr all) b b' t =
      same_or_holds Selections x y (handed_down d o f x rf b) (handed_down d o g y rg b') (selections_in (merged_set f g) all.1 x y (merged_left d f g x b) (merged_right d f g y b') t)

  selection_start : (f g : Field) → Starts d o f → Starts d o g → MayShare s f g → SameOr Selections f g
  selection_start f g p q t = same_or_holds Selections f g (started d o f p) (started d o g q) (selections_in (own o) (any (own o) (inl refl)) f g p q t)

  selection_end : (f g : Field) → SameOr Selections f g → SameNameAndArguments f g
  selection_end f g (r, inl same) = subst (SameNameAndArguments f) same (selection_refl f)
  selection_end f g (r, inr all) = all.0

  pub merge_of_different : FieldsMerge s d o
  merge_of_different = record {
    shapes = λ f g (c, (c', (p, (q, t)))). shape_end f g (ends (Below d) SameKey (SameOr Shapes) shape_down (Starts d o) (Starts d o) shape_start c c' f g p q t);
    selections = λ f g (c, (c', (p, (q, t)))). selection_end f g (ends (Below d) (MayShare s) (SameOr Selections) selection_down (Starts d o) (Starts d o) selection_start c c' f g p q t);
  }
