-- Where the algorithm ends within a depth, that depth decides.
use Rattle.std.proofs.Common.{ℕ, zero, suc, List, inl, inr}
use Rattle.rule_definitions.specs.Judged.{Judged}
use Rattle.rule_document_definitions.specs.Selected.{own}
use Rattle.book_validity.specs.Words.{Document, Operation, Selection, Field}
use Rattle.book_validity.specs.FieldSelectionMerging.{selection_set, merged_set, SameResponseShape, FieldsInSetCanMerge, CanMerge}
use Rattle.book_validity.specs.MergingLaws.{EndsWithin}
use Rattle.book_validity.proofs.TypeFacts.{unwrap, unwrapped}
use Rattle.book_validity.proofs.SetFacts.{in_merged}

module _ (s : Judged) (d : Document) where
  -- a merged set ends where both do
  merged_ends : (n : ℕ) (f g : Field) → EndsWithin d n (selection_set f) → EndsWithin d n (selection_set g) → EndsWithin d n (merged_set f g)
  merged_ends zero f g a b = λ x in_x. elim (in_merged d f g x in_x) [ inl h ↦ a x h | inr h ↦ b x h ]
  merged_ends (suc n) f g a b = λ x in_x. elim (in_merged d f g x in_x) [ inl h ↦ a x h | inr h ↦ b x h ]

  shape_ends : (depth : ℕ) (f g : Field) → EndsWithin d depth (merged_set f g) → SameResponseShape s d (suc depth) f g → (n : ℕ) → SameResponseShape s d n f g
  shape_ends depth f g ends same zero = tt
  shape_ends zero f g ends same (suc n) =
      let u = unwrapped f.definition.ty g.definition.ty _ same in
      unwrap f.definition.ty g.definition.ty _ u.0 (elim u.1 [ inl leaf ↦ inl leaf | inr c ↦ inr (c.0, λ name x y in_x in_y. absurd (ends x in_x.0)) ])
  shape_ends (suc depth) f g ends same (suc n) =
      let u = unwrapped f.definition.ty g.definition.ty _ same in
      unwrap f.definition.ty g.definition.ty _ u.0 (elim u.1 [
        | inl leaf ↦ inl leaf
        | inr c ↦ inr (c.0, λ name x y in_x in_y. shape_ends depth x y (merged_ends depth x y (ends x in_x.0) (ends y in_y.0)) (c.1 name x y in_x in_y) n)
      ])

  set_ends : (depth : ℕ) (set : List Selection) → EndsWithin d depth set → FieldsInSetCanMerge s d (suc depth) set → (n : ℕ) → FieldsInSetCanMerge s d n set
  set_ends depth set ends can zero = tt
  set_ends zero set ends can (suc n) = λ name f g in_f in_g. absurd (ends f in_f.0)
  set_ends (suc depth) set ends can (suc n) = λ name f g in_f in_g.
      let merged = merged_ends depth f g (ends f in_f.0) (ends g in_g.0) in
      let here = can name f g in_f in_g in
      (shape_ends depth f g merged here.0 n, λ parents. let h = here.1 parents in (h.0, (h.1.0, set_ends depth (merged_set f g) merged h.1.1 n)))

  pub depth_decides : (set : List Selection) (depth : ℕ) → EndsWithin d depth set → FieldsInSetCanMerge s d (suc depth) set → CanMerge s d set
  depth_decides set depth ends can = set_ends depth set ends can
