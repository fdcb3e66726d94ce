-- The first 1,000 of what is told.
use Rattle.std.proofs.Common.{◌≡◌, ◌⊎◌, ℕ, zero, suc, ◌-◌, inl, inr, ltb, ◌&&◌, Bool, true, false, List, [], ◌∷◌, ◌++◌, map, None, take, length, refl, ap, sym, ◌∙◌, arith}
use Rattle.std.specs.List.{filter}
use Rattle.std.proofs.lemmas.Bool.{cases_lt, lt-ltb, le-ltb}
use Rattle.std.proofs.lemmas.List.{length-append, length-map}
use Rattle.std.proofs.lemmas.List.Elements.{filter-append}
use Rattle.graphql_names.specs.Placed.{Place}
use Rattle.rule_definitions.specs.PlacedFaults.{PlacedFault}
use Rattle.rule_definitions.specs.Room.{most_told}
use Rattle.rule_definitions.proofs.Room.{room_first, room_silent}
use Rattle.rule_document_definitions.specs.DocumentFaults.{Broken, OfData, OfDocument, OfLimit}
use Rattle.rule_document_definitions.specs.PlacedDocumentFaults.{PlacedDocumentFault}
use Rattle.rule_merging.specs.in_faults.DetailsTree.{of_document}
use Rattle.rule_merging.proofs.After.{nothing_told}
use Rattle.rule_fragments.specs.UnlessFull.{IsFull}
use Rattle.rule_fragments.proofs.UnlessFull.{first_full}
use Rattle.graphql_validation.specs.Lasts.{fault_lasts, broken_lasts, lasts}
use Rattle.graphql_validation.specs.Operations.{bound_told, all_told}
use Rattle.graphql_validation.specs.ValidationFaults.{Telling}
use Rattle.graphql_validation.proofs.Filtered.{filter_view}

-- ---- where none of the first are told, nothing is to be told

pub none_first : {A : Type 0} (all : List A) → take most_told all ≡ [] → all ≡ []
none_first all e = room_silent all (room_first all ∙ e)

pub none_told : (old new : Telling) (all : List PlacedDocumentFault) → new ≡ old ++ map of_document (take most_told all) → new ≡ old → all ≡ []
none_told old new all is same = none_first all (nothing_told old new (take most_told all) is same)

-- ---- where one part of all is as long as may be, so are the first of all

module _ (faults : List PlacedFault) (breaches : List (Broken Place)) (is_passed : Bool) where
  pub full_faults : IsFull faults → IsFull (all_told faults breaches is_passed)
  full_faults full =
      let following = map OfDocument breaches ++ bound_told is_passed in
      let long = length-append (map OfData faults) following in
      let same = length-map {B = PlacedDocumentFault} faults OfData in
      omega (arith, full, long, same)

  pub full_breaches : IsFull breaches → IsFull (all_told faults breaches is_passed)
  full_breaches full =
      let long = length-append (map OfData faults) (map OfDocument breaches ++ bound_told is_passed) in
      let more = length-append (map OfDocument breaches) (bound_told is_passed) in
      let same = length-map {B = PlacedDocumentFault} breaches OfDocument in
      omega (arith, full, long, more, same)

  pub parts_told : {A B C : Type 0} → IsFull faults ⊎ A → IsFull breaches ⊎ B → (A → B → C) → IsFull (take most_told (all_told faults breaches is_passed)) ⊎ C
  parts_told (inl full) b c = inl (first_full (all_told faults breaches is_passed) (full_faults full))
  parts_told (inr a) (inl full) c = inl (first_full (all_told faults breaches is_passed) (full_breaches full))
  parts_told (inr a) (inr b) c = inr (c a b)

-- ---- cutting faults, then breaches, then the bound

none_of_none : {A : Type 0} (n : ℕ) → take {A = A} n [] ≡ []
none_of_none zero = refl
none_of_none (suc n) = refl

one_less : (m n : ℕ) → ltb (suc m) (suc n) ≡ ltb m n
one_less m n = elim (cases_lt m n) [
  | inl lt ↦ lt-ltb (suc m) (suc n) (omega arith) ∙ sym (lt-ltb m n lt)
  | inr le ↦ le-ltb (suc m) (suc n) (omega arith) ∙ sym (le-ltb m n le)
]

-- breaches and the bound, to so many
cut_rest : (n : ℕ) (breaches : List (Broken Place)) (is_passed : Bool)
    → map OfDocument (take n breaches) ++ bound_told (is_passed && ltb (length (take n breaches)) n) ≡ take n (map OfDocument breaches ++ bound_told is_passed)
cut_rest zero breaches true = refl
cut_rest zero breaches false = refl
cut_rest (suc n) [] true = ap bound_told (lt-ltb 0 (suc n) (omega arith)) ∙ ap (λ l. OfLimit None ∷ l) (sym (none_of_none n))
cut_rest (suc n) [] false = refl
cut_rest (suc n) (b ∷ breaches) is_passed =
    ap (λ l. OfDocument b ∷ (map OfDocument (take n breaches) ++ bound_told (is_passed && l))) (one_less (length (take n breaches)) n)
    ∙ ap (λ l. OfDocument b ∷ l) (cut_rest n breaches is_passed)

-- faults, too, where room is left for so many others
cut_told : (n room : ℕ) (faults : List PlacedFault) (breaches : List (Broken Place)) (is_passed : Bool) → room ≡ n - length (take n faults)
    → all_told (take n faults) (take room breaches) (is_passed && ltb (length (take room breaches)) room) ≡ take n (all_told faults breaches is_passed)
cut_told zero room faults breaches is_passed e =
    let none : room ≡ 0 = omega arith in
    cut_rest room breaches is_passed ∙ ap (λ k. take k (map OfDocument breaches ++ bound_told is_passed)) none
cut_told (suc n) room [] breaches is_passed e =
    let all : room ≡ suc n = omega arith in
    cut_rest room breaches is_passed ∙ ap (λ k. take k (map OfDocument breaches ++ bound_told is_passed)) all
cut_told (suc n) room (f ∷ faults) breaches is_passed e =
    let less : room ≡ n - length (take n faults) = omega arith in
    ap (λ l. OfData f ∷ l) (cut_told n room faults breaches is_passed less)

-- what is kept of both lists, and whether the bound is told: there has to be room for it
pub kept_told : (n room : ℕ) (faults first : List PlacedFault) (breaches front : List (Broken Place)) (is_passed is_told : Bool) → first ≡ take n faults → room ≡ n - length first → front ≡ take room breaches
    → is_told ≡ (is_passed && ltb (length front) room) → all_told first front is_told ≡ take n (all_told faults breaches is_passed)
kept_told n room faults first breaches front is_passed is_told a left b told =
    let test = told ∙ ap (λ l. is_passed && ltb (length l) room) b in
    (λ i. all_told (a i) (b i) (test i)) ∙ cut_told n room faults breaches is_passed (left ∙ ap (λ l. n - length l) a)

-- ---- those that last

-- the bound is none of them
lasting_bound : (is_passed : Bool) → filter lasts (bound_told is_passed) ≡ []
lasting_bound true = refl
lasting_bound false = refl

pub lasting_all : (faults : List PlacedFault) (breaches : List (Broken Place)) (is_passed : Bool)
    → filter lasts (all_told faults breaches is_passed) ≡ all_told (filter fault_lasts faults) (filter broken_lasts breaches) false
lasting_all faults breaches is_passed =
    filter-append lasts (map OfData faults) (map OfDocument breaches ++ bound_told is_passed)
    ∙ (λ i. sym (filter_view OfData lasts faults) i ++ (filter-append lasts (map OfDocument breaches) (bound_told is_passed) ∙ (λ j. sym (filter_view OfDocument lasts breaches) j ++ lasting_bound is_passed j)) i)
