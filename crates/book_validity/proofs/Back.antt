-- Where the algorithm answers true at every depth, the fields of the operation merge.
use Rattle.std.proofs.Common.{◌≡◌, ◌⊎◌, ℕ, suc, List, [], ◌∷◌, ◌++◌, refl, sym, inl, inr}
use Rattle.rule_definitions.specs.Judged.{Judged}
use Rattle.rule_definitions.specs.Names.{named_in}
use Rattle.rule_document_definitions.specs.Selected.{response_key, own}
use Rattle.rule_document_definitions.specs.Chains.{Chain, GoTogether}
use Rattle.rule_document_definitions.specs.Merging.{Below, Starts, SameKey, MayShare, SameInner, SameShape, SameName, SameNameAndArguments, FieldsMerge}
use Rattle.rule_document_definitions.specs.SameValues.{SameArguments}
use Rattle.rule_document_definitions.specs.PossibleTypes.{IsComposite}
use Rattle.book_validity.specs.Words.{Document, Operation, Selection, Field}
use Rattle.book_validity.specs.FieldSelectionMerging.{IsScalarOrEnum, merged_set, IsIn, EachPair, SameResponseShape, FieldsInSetCanMerge, CanMerge}
use Rattle.book_validity.specs.MergingLaws.{FieldsAreTyped}
use Rattle.book_validity.proofs.TypeFacts.{unwrapped, may_meet}
use Rattle.book_validity.proofs.SetFacts.{IsReachedField, started, handed_down, merged_left, merged_right, none_below}

-- what two first fields have, and hand down to two that go together, two last fields have
module _ {F : Type 0} (Below Together Good : F → F → Type 0) (down : (f g x y : F) → Good f g → Below f x → Below g y → Together x y → Good x y) where
  pub ends : (Starts Others : F → Type 0) → ((f g : F) → Starts f → Others g → Together f g → Good f g)
      → (c c' : List F) (f g : F) → Chain Below Starts (c ++ f ∷ []) → Chain Below Others (c' ++ g ∷ []) → GoTogether Together (c ++ f ∷ []) (c' ++ g ∷ []) → Good f g
  ends Starts Others start [] [] f g (p, _) (q, _) (t, _) = start f g p q t
  ends Starts Others start [] (y ∷ []) f g p q (t, rest) = absurd rest
  ends Starts Others start [] (y ∷ z ∷ c') f g p q (t, rest) = absurd rest
  ends Starts Others start (y ∷ []) [] f g p q (t, rest) = absurd rest
  ends Starts Others start (y ∷ z ∷ c) [] f g p q (t, rest) = absurd rest
  ends Starts Others start (h ∷ c) (k ∷ c') f g (p, ps) (q, qs) (t, rest) =
      ends (Below h) (Below k) (λ x y b b' u. down h k x y (start h k p q t) b b' u) c c' f g ps qs rest

module _ (s : Judged) (d : Document) (o : Operation) (can : CanMerge s d (own o)) (typed : FieldsAreTyped s d o) where
  leaf_below : (f x : Field) → IsReachedField d o f → IsScalarOrEnum s (named_in f.definition.ty) → Below d f x → ⊥
  leaf_below f x (y, (r, e)) l b = none_below d f x ((typed y r f e).leaf l) b

  -- ---- shapes

  abbrev OfOneShape : Field → Field → Type 0
  OfOneShape f g = IsReachedField d o f × (IsReachedField d o g × ((n : ℕ) → SameResponseShape s d n f g))

  shape_down : (f g x y : Field) → OfOneShape f g → Below d f x → Below d g y → SameKey x y → OfOneShape x y
  shape_down f g x y (rf, (rg, all)) b b' t = (handed_down d o f x rf b, (handed_down d o g y rg b', λ n. deeper n (unwrapped f.definition.ty g.definition.ty _ (all (suc n))).1))
    where
      deeper : (n : ℕ) → (((IsScalarOrEnum s (named_in f.definition.ty) ⊎ IsScalarOrEnum s (named_in g.definition.ty)) × (named_in f.definition.ty ≡ named_in g.definition.ty))
          ⊎ ((IsComposite s (named_in f.definition.ty) × IsComposite s (named_in g.definition.ty)) × EachPair d (merged_set f g) (λ v w. SameResponseShape s d n v w)))
          → SameResponseShape s d n x y
      deeper n (inl (inl l, e)) = absurd (leaf_below f x rf l b)
      deeper n (inl (inr l, e)) = absurd (leaf_below g y rg l b')
      deeper n (inr (c, each)) = each (response_key x) x y (merged_left d f g x b, refl) (merged_right d f g y b', sym t)

  shape_start : (f g : Field) → Starts d o f → Starts d o g → SameKey f g → OfOneShape f g
  shape_start f g p q t = (started d o f p, (started d o g q, λ n. (can (suc n) (response_key f) f g (p, refl) (q, sym t)).0))

  shape_end : (f g : Field) → OfOneShape f g → SameShape s f g
  shape_end f g (rf, (rg, all)) = let u = unwrapped f.definition.ty g.definition.ty _ (all 1) in (u.0, inner u.1)
    where
      inner : {Deeper : Type 0} → (((IsScalarOrEnum s (named_in f.definition.ty) ⊎ IsScalarOrEnum s (named_in g.definition.ty)) × (named_in f.definition.ty ≡ named_in g.definition.ty))
          ⊎ ((IsComposite s (named_in f.definition.ty) × IsComposite s (named_in g.definition.ty)) × Deeper)) → SameInner s (named_in f.definition.ty) (named_in g.definition.ty)
      inner (inl (l, e)) = inl e
      inner (inr (c, deeper)) = inr c

  -- ---- names and arguments

  abbrev OfOneSelection : Field → Field → Type 0
  OfOneSelection f g = SameNameAndArguments f g × ((n : ℕ) → FieldsInSetCanMerge s d n (merged_set f g))

  of_set : (set : List Selection) → ((n : ℕ) → FieldsInSetCanMerge s d n set) → (f g : Field) → IsIn d set f → IsIn d set g → MayShare s f g → OfOneSelection f g
  of_set set all f g in_f in_g t = (((at 0).0, (at 0).1.0), λ n. (at n).1.1)
    where
      at : (n : ℕ) → SameName f g × (SameArguments f.head.arguments g.head.arguments × FieldsInSetCanMerge s d n (merged_set f g))
      at n = (all (suc n) (response_key f) f g (in_f, refl) (in_g, sym t.0)).1 (may_meet s f g t)

  selection_down : (f g x y : Field) → OfOneSelection f g → Below d f x → Below d g y → MayShare s x y → OfOneSelection x y
  selection_down f g x y (a, all) b b' t = of_set (merged_set f g) all x y (merged_left d f g x b) (merged_right d f g y b') t

  pub fields_merge : FieldsMerge s d o
  fields_merge = record {
    shapes = λ f g (c, (c', (p, (q, t)))). shape_end f g (ends (Below d) SameKey OfOneShape shape_down (Starts d o) (Starts d o) shape_start c c' f g p q t);
    selections = λ f g (c, (c', (p, (q, t)))). (ends (Below d) (MayShare s) OfOneSelection selection_down (Starts d o) (Starts d o) (of_set (own o) can) c c' f g p q t).0;
  }
