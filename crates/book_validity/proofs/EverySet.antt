-- Where the operation's own set can merge, so can each that it reaches: a field's set is merged with itself.
use Rattle.std.proofs.Common.{ℕ, zero, suc, List, Contains, refl, sym, subst, inl, inr}
use Rattle.rule_definitions.specs.Judged.{Judged}
use Rattle.rule_document_definitions.specs.Selected.{response_key, own}
use Rattle.rule_document_definitions.specs.Reached.{Closed, first, next, InFragmentOf, Reached}
use Rattle.book_validity.specs.Words.{Document, Operation, Selection, Field}
use Rattle.book_validity.specs.FieldSelectionMerging.{selection_set, merged_set, IsIn, FieldsInSetCanMerge, CanMerge}
use Rattle.book_validity.specs.FieldSelectionMerging.{IsSetOf, ReachesSet}
use Rattle.book_validity.proofs.SetFacts.{merged_left}

module _ (s : Judged) (d : Document) where
  -- of a part of a set it holds too
  part_can : (set part : List Selection) → ((f : Field) → IsIn d part f → IsIn d set f) → (n : ℕ) → FieldsInSetCanMerge s d n set → FieldsInSetCanMerge s d n part
  part_can set part within zero can = tt
  part_can set part within (suc n) can = λ name f g in_f in_g. can name f g (within f in_f.0, in_f.1) (within g in_g.0, in_g.1)

  -- what is there through fragments
  abbrev Through : List Selection → Selection → Type 0
  Through set = Closed (Contains set) (InFragmentOf d)

  through_part : (set part : List Selection) → ((x : Selection) → Contains part x → Through set x) → (x : Selection) → Through part x → Through set x
  through_part set part within x (first c) = within x c
  through_part set part within y (next {x} r l) = next (through_part set part within x r) l

  abbrev AllCan : List Selection → Type 0
  AllCan set = (n : ℕ) → FieldsInSetCanMerge s d n set

  -- the set of a field
  field_can : (set : List Selection) → AllCan set → (f : Field) → IsIn d set f → AllCan (selection_set f)
  field_can set all f in_f n = part_can (merged_set f f) (selection_set f) (λ g in_g. merged_left d f f g in_g) n ((all (suc n) (response_key f) f f (in_f, refl) (in_f, refl)).1 (inl refl)).1.1

  module _ (o : Operation) (can : CanMerge s d (own o)) where
    -- a selection that is reached is in a set that can merge
    in_some : (x : Selection) → Reached d o x → (set : List Selection) × (AllCan set × Through set x)
    in_some x (first c) = (own o, (can, first c))
    in_some y (next {x} r (inl (f, (e, c)))) = let p = in_some x r in (selection_set f, (field_can p.0 p.1.0 f (x, (p.1.1, e)), first c))
    in_some y (next {x} r (inr l)) = let p = in_some x r in (p.0, (p.1.0, next p.1.1 l))

    set_can : (x : Selection) → Reached d o x → (set : List Selection) → IsSetOf d x set → AllCan set
    set_can x r set (inl (f, (e, is))) n = let p = in_some x r in subst AllCan is (field_can p.0 p.1.0 f (x, (p.1.1, e))) n
    set_can x r set (inr h) n =
        let p = in_some x r in
        part_can p.0 set (λ f (y, (t, e)). (y, (through_part p.0 set (λ z c. next p.1.1 (of z c)) y t, e))) n (p.1.0 n)
      where
        of : (z : Selection) → Contains set z → InFragmentOf d x z
        of z c = elim h [
          | inl is ↦ inl (subst (λ l. Contains l z) (sym is) c)
          | inr p ↦ inr (p.0, (p.1.0, (p.1.1.0, (p.1.1.1.0, subst (λ l. Contains l z) (sym p.1.1.1.1) c))))
        ]

    pub every_set : (set : List Selection) → ReachesSet d o set → AllCan set
    every_set set (inl is) = subst AllCan is can
    every_set set (inr (x, (r, is))) = set_can x r set is
