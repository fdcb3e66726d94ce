-- Merging, operation by operation.
use Rattle.std.proofs.Common.{◌≡◌, ◌↔◌, inl, inr, ◌++◌, Bool, List, [], ◌∷◌, map, refl, ap, sym, ◌∙◌, subst, Contains, append_assoc}
use Rattle.std.proofs.lemmas.List.{map-append}
use Rattle.std.proofs.lemmas.List.Elements.{Contains-append_cases}
use Rattle.std.specs.Prelude.{IsTrue}
use Rattle.graphql_names.specs.Placed.{Place}
use Rattle.spec_document.specs.MeantTree.{MeantOperation, MeantDocument}
use Rattle.rule_definitions.proofs.Lists.{not_in_nil, only, Contains-first}
use Rattle.rule_definitions.specs.Judged.{Judged}
use Rattle.rule_document_definitions.specs.Merging.{FieldsMerge}
use Rattle.rule_document_definitions.specs.Selected.{operations}
use Rattle.rule_document_definitions.specs.PlacedDocumentFaults.{PlacedDocumentFault}
use Rattle.rule_merging.specs.in_faults.DetailsTree.{of_document}
use Rattle.rule_merging.specs.Merged.{MergingTold, DocumentMergingTold}
use Rattle.graphql_validation.specs.ValidationFaults.{Telling}
use Rattle.rule_merging.proofs.After.{nothing_told, told_nothing}

told_after : (old mid new : Telling) (a b : List PlacedDocumentFault) → mid ≡ old ++ map of_document a → new ≡ mid ++ map of_document b → new ≡ old ++ map of_document (a ++ b)
told_after old mid new a b e i =
    i ∙ ap (λ l. l ++ map of_document b) e ∙ append_assoc old (map of_document a) (map of_document b) ∙ ap (λ l. old ++ l) (sym (map-append of_document a b))

front_none : {A : Type 0} (a b : List A) → a ++ b ≡ [] → a ≡ []
front_none [] b e = refl
front_none (x ∷ a) b e = absurd (not_in_nil x (subst (λ l. Contains l x) e (Contains-first x (a ++ b) x refl)))

module _ (s : Judged) (d : MeantDocument Place) where
  -- ---- what is told

  pub merging_none : (new : Telling) → new ≡ [] → DocumentMergingTold s d [] new
  merging_none new none = ([], (none, λ f c. absurd (not_in_nil f c)))

  pub merging_more : (old mid new : Telling) (o : MeantOperation Place) → Contains (operations d) o → DocumentMergingTold s d old mid → MergingTold s d o mid new → DocumentMergingTold s d old new
  merging_more old mid new o among (a, (e, first)) (b, (i, next)) =
      (a ++ b, (told_after old mid new a b e i, λ f c. elim (Contains-append_cases a b f c) [ inl h ↦ first f h | inr h ↦ (o, (among, next f h)) ]))

  -- ---- what merges

  -- where nothing is told the value is clean, and the fields of these operations merge
  abbrev pub MergeSoFar : List (MeantOperation Place) → Bool → Telling → Telling → Type 0
  MergeSoFar os is_clean old new = new ≡ old → IsTrue is_clean × ((o : MeantOperation Place) → Contains os o → FieldsMerge s d o)

  pub so_far_none : (is_clean : Bool) (old new : Telling) → IsTrue is_clean → MergeSoFar [] is_clean old new
  so_far_none is_clean old new clean same = (clean, λ o k. absurd (not_in_nil o k))

  pub so_far_more : (old mid new : Telling) (os all : List (MeantOperation Place)) (o : MeantOperation Place) (was is_clean : Bool) → all ≡ os ++ o ∷ []
      → DocumentMergingTold s d old mid → MergeSoFar os was old mid → MergingTold s d o mid new
      → (IsTrue was → new ≡ mid → FieldsMerge s d o) → (IsTrue is_clean ↔ (IsTrue was × (new ≡ mid))) → MergeSoFar all is_clean old new
  so_far_more old mid new os all o was is_clean is (a, (e, first)) before (b, (i, next)) merges clean same =
      let none = nothing_told old new (a ++ b) (told_after old mid new a b e i) same in
      let kept = told_nothing old mid a e (front_none a b none) in
      let still : new ≡ mid = same ∙ sym kept in
      let were = before kept in (
        clean.1 (were.0, still),
        λ p k. elim (Contains-append_cases os (o ∷ []) p (subst (λ l. Contains l p) is k)) [
          | inl h ↦ were.1 p h
          | inr h ↦ subst (FieldsMerge s d) (sym (only o p h)) (merges were.0 still)
        ],
      )
