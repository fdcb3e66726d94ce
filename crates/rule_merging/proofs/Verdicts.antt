-- What merging tells of an operation, and what stays settled.
use Rattle.std.proofs.Common.{◌≡◌, ◌↔◌, inl, inr, ◌++◌, Bool, true, false, List, [], ◌∷◌, map, refl, ap, sym, ◌∙◌, subst, Contains, append_assoc}
use Rattle.std.proofs.Math.Logic.{∥∥₁_map, ∥∥₁_elim}
use Rattle.std.proofs.lemmas.List.{map-append}
use Rattle.std.proofs.lemmas.List.Elements.{Contains-append_cases}
use Rattle.std.specs.Prelude.{IsTrue}
use Rattle.graphql_names.specs.Placed.{Place}
use Rattle.rule_field_groups.specs.in_spec_document.MeantTree.{MeantOperation, MeantDocument}
use Rattle.rule_field_groups.proofs.in_definitions.Lists.{not_in_nil, only, Contains-first}
use Rattle.rule_field_groups.specs.in_definitions.Judged.{Judged}
use Rattle.rule_field_groups.specs.in_document_definitions.DocumentFaults.{Broken, OfDocument, OfLimit}
use Rattle.rule_field_groups.specs.in_document_definitions.Merging.{FieldsMerge}
use Rattle.rule_field_groups.specs.in_document_definitions.PlacedDocumentFaults.{PlacedDocumentFault}
use Rattle.rule_field_groups.proofs.in_document_definitions.MergingFacts.{merging_breaks_nothing}
use Rattle.rule_field_groups.proofs.in_document_definitions.Stable.{merge_if_nothing_breaks}
use Rattle.rule_field_groups.proofs.in_document_definitions.Unplaced.{contains_unmap}
use Rattle.rule_merging.specs.Examined.{Breaches}
use Rattle.rule_field_groups.specs.in_document_definitions.ReadFields.{ReadField}
use Rattle.rule_merging.specs.Verdict.{lists_examined, ExaminesOperation}
use Rattle.rule_merging.specs.declared.operation.Examined.{Examined}
use Rattle.rule_field_groups.specs.in_sets.in_reach.Broken.{brokens_of}
use Rattle.graphql_faults.specs.DetailsTree.{of_document, Telling}
use Rattle.rule_merging.specs.Merged.{MergingFailsAt, AreSettledIf, limit_told, conflicts_told}
use Rattle.rule_merging.specs.Merger.{AreClosed, with_alone}
use Rattle.rule_merging.proofs.Alone.{closed_with_alone}
use Rattle.rule_merging.proofs.After.{breaches_told, nothing_told, told_nothing}

-- ---- what is told, as one list

pub conflicts_in_turn : (old one new : Telling) (bs : List (Broken Place)) (place : Place) (left : Bool)
    → one ≡ old ++ map (λ b. of_document (OfDocument b)) bs → new ≡ one ++ map of_document (limit_told place left)
    → new ≡ old ++ map of_document (conflicts_told bs place left)
conflicts_in_turn old one new bs place left a b =
    let l = map of_document (limit_told place left) in
    b ∙ ap (λ t. t ++ l) a ∙ append_assoc old (map (λ b. of_document (OfDocument b)) bs) l
    ∙ ap (λ t. old ++ t) (sym (map-append of_document (map OfDocument bs) (limit_told place left) ∙ ap (λ t. t ++ l) (breaches_told bs)))

-- it is empty exactly when no breach is told and no list is left
pub no_conflicts : (bs : List (Broken Place)) (place : Place) (left : Bool) → bs ≡ [] → left ≡ false → conflicts_told bs place left ≡ []
no_conflicts bs place left none ended = λ i. map OfDocument (none i) ++ limit_told place (ended i)

not_empty : {A : Type 0} (x : A) (xs : List A) → x ∷ xs ≡ [] → ⊥
not_empty x xs e = not_in_nil x (subst (λ l. Contains l x) e (Contains-first x xs x refl))

pub only_no_conflicts : (bs : List (Broken Place)) (place : Place) (left : Bool) → conflicts_told bs place left ≡ [] → (bs ≡ []) × (left ≡ false)
only_no_conflicts [] place false e = (refl, refl)
only_no_conflicts [] place true e = absurd (not_empty (OfLimit place) [] e)
only_no_conflicts (b ∷ bs) place left e = absurd (not_empty (OfDocument b) (map OfDocument bs ++ limit_told place left) e)

-- a value stays clean exactly when it was clean and nothing is added
pub stays_exactly : (was stays left : Bool) (bs : List (Broken Place)) (place : Place) (old new : Telling) → (IsTrue stays ↔ (IsTrue was × ((bs ≡ []) × (left ≡ false))))
    → new ≡ old ++ map of_document (conflicts_told bs place left) → IsTrue stays ↔ (IsTrue was × (new ≡ old))
stays_exactly was stays left bs place old new tests is = (
  λ h. let k = tests.0 h in (k.0, told_nothing old new (conflicts_told bs place left) is (no_conflicts bs place left k.1.0 k.1.1)),
  λ k. tests.1 (k.0, only_no_conflicts bs place left (nothing_told old new (conflicts_told bs place left) is k.1)),
)

-- ---- what was examined

none_twice : IsProp ⊥
none_twice x y = absurd x

module _ (s : Judged) (d : MeantDocument Place) (o : MeantOperation Place) (old new : Examined) (before told : Breaches) (left : Bool)
    (empty : brokens_of before ≡ []) (examined : ExaminesOperation s d o old new before told left) where
  is_added : brokens_of told ≡ examined.0
  is_added = examined.1.0 ∙ ap (λ l. l ++ examined.0) empty

  -- all that is told fails
  pub conflicts_right : (f : PlacedDocumentFault) → Contains (conflicts_told (brokens_of told) o.place left) f → MergingFailsAt s d o f
  conflicts_right f c = elim (Contains-append_cases (map OfDocument (brokens_of told)) (limit_told o.place left) f c) [
    | inl h ↦ let b = contains_unmap OfDocument (brokens_of told) f h in
        subst (MergingFailsAt s d o) b.1.1 (examined.1.1.right b.0 (subst (λ l. Contains l b.0) is_added b.1.0))
    | inr h ↦ limit left refl h
  ]
    where
      limit : (b : Bool) → left ≡ b → Contains (limit_told o.place b) f → MergingFailsAt s d o f
      limit false is k = absurd (not_in_nil f k)
      limit true is k = subst (MergingFailsAt s d o) (sym (only (OfLimit o.place) f k)) (examined.1.1.bound is, refl)

  -- settled lists stay settled while the value stays clean
  pub still_settled : (was stays : Bool) → (IsTrue stays ↔ (IsTrue was × ((brokens_of told ≡ []) × (left ≡ false)))) → ∥ AreSettledIf s d was old ∥₁ → ∥ AreSettledIf s d stays new ∥₁
  still_settled was stays tests settled = ∥∥₁_map settled (λ h is. let k = tests.0 is in (examined.1.1.settled (sym is_added ∙ k.1.0) k.1.1 (h k.0)).0)

  -- where nothing is told, what was examined for shapes is settled, with what the operation has alone, and has what the operation starts with
  pub settled_closed : (was : Bool) → ∥ AreSettledIf s d was old ∥₁ → IsTrue was → (brokens_of told ≡ []) × (left ≡ false)
      → ∥ ((lone : List ReadField) × AreClosed s d o (with_alone (lists_examined new) lone)) ∥₁
  settled_closed was settled clean none = ∥∥₁_map settled (λ h. let r = examined.1.1.settled (sym is_added ∙ none.0) none.1 (h clean) in closed_with_alone s d o new r.0.0.fields r.1.0)

  -- and where nothing is told the fields merge: no rule can fail
  pub settled_merges : (was : Bool) → ∥ AreSettledIf s d was old ∥₁ → IsTrue was → (brokens_of told ≡ []) × (left ≡ false) → FieldsMerge s d o
  settled_merges was settled clean none =
      merge_if_nothing_breaks s d o (λ fault breaks. ∥∥₁_elim settled none_twice
      (λ h. merging_breaks_nothing s d o (examined.1.1.settled (sym is_added ∙ none.0) none.1 (h clean)).1.1 fault breaks))
