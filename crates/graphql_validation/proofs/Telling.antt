-- What is told, in order, as one list.
use Rattle.std.proofs.Common.{◌≡◌, ◌⊎◌, inl, inr, ◌++◌, Contains, Bool, true, false, List, [], ◌∷◌, map, None, refl, ap, sym, ◌∙◌, subst, append_assoc}
use Rattle.std.proofs.lemmas.List.{map-append}
use Rattle.std.specs.Prelude.{IsTrue}
use Rattle.std.proofs.lemmas.List.Elements.{Contains-append_left, Contains-append_right, Contains-append_cases}
use Rattle.graphql_names.specs.Placed.{Place}
use Rattle.rule_definitions.specs.PlacedFaults.{PlacedFault}
use Rattle.rule_merging.specs.in_faults.DetailsTree.{of_rule, of_document}
use Rattle.rule_document_definitions.specs.DocumentFaults.{Broken, OfData, OfDocument, OfLimit}
use Rattle.rule_document_definitions.specs.PlacedDocumentFaults.{PlacedDocumentFault}
use Rattle.rule_definitions.proofs.Lists.{not_in_nil, only, Contains-first}
use Rattle.rule_fragments.proofs.in_reach.Bridge.{from_map, to_map}
use Rattle.rule_merging.proofs.After.{breaches_told}
use Rattle.graphql_validation.specs.Operations.{bound_told, all_told}
use Rattle.graphql_validation.specs.ValidationFaults.{Telling}

data_told : (faults : List PlacedFault) → map of_document (map OfData faults) ≡ map of_rule faults
data_told [] = refl
data_told (f ∷ fs) = ap (λ l. of_rule f ∷ l) (data_told fs)

-- one part after another
pub told_in_turn : (old one two new : Telling) (faults : List PlacedFault) (breaches : List (Broken Place)) (is_passed : Bool)
    → one ≡ old ++ map of_rule faults → two ≡ one ++ map (λ b. of_document (OfDocument b)) breaches → new ≡ two ++ map of_document (bound_told is_passed)
    → new ≡ old ++ map of_document (all_told faults breaches is_passed)
told_in_turn old one two new faults breaches is_passed a b c =
    let fs = map of_rule faults in
    let bs = map (λ b. of_document (OfDocument b)) breaches in
    let l = map of_document (bound_told is_passed) in
    c ∙ ap (λ t. t ++ l) (b ∙ ap (λ t. t ++ bs) a)
    ∙ append_assoc (old ++ fs) bs l ∙ append_assoc old fs (bs ++ l)
    ∙ ap (λ t. old ++ t) (sym (
    map-append of_document (map OfData faults) (map OfDocument breaches ++ bound_told is_passed)
    ∙ (λ i. data_told faults i ++ (map-append of_document (map OfDocument breaches) (bound_told is_passed) ∙ ap (λ t. t ++ l) (breaches_told breaches)) i)
    ))

-- ---- what is in the list

module _ (faults : List PlacedFault) (breaches : List (Broken Place)) (is_passed : Bool) where
  abbrev All : List PlacedDocumentFault
  All = all_told faults breaches is_passed

  -- a fault with data, another one
  pub data_in : (f : PlacedFault) → Contains faults f → Contains All (OfData f)
  data_in f c = Contains-append_left (map OfData faults) (map OfDocument breaches ++ bound_told is_passed) (OfData f) (to_map OfData faults f c)

  pub broken_in : (b : Broken Place) → Contains breaches b → Contains All (OfDocument b)
  broken_in b c =
      Contains-append_right (map OfData faults) (map OfDocument breaches ++ bound_told is_passed) (OfDocument b)
      (Contains-append_left (map OfDocument breaches) (bound_told is_passed) (OfDocument b) (to_map OfDocument breaches b c))

  -- the bound
  pub limit_in : IsTrue is_passed → Contains All (OfLimit None)
  limit_in passed =
      Contains-append_right (map OfData faults) (map OfDocument breaches ++ bound_told is_passed) (OfLimit None)
      (Contains-append_right (map OfDocument breaches) (bound_told is_passed) (OfLimit None)
      (subst (λ b. Contains (bound_told b) (OfLimit None)) (sym passed) (Contains-first (OfLimit None) [] (OfLimit None) refl)))

  -- what is told is one of the three
  pub told_cases : (f : PlacedDocumentFault) → Contains All f
      → ((g : PlacedFault) × (Contains faults g × (OfData g ≡ f))) ⊎ (((b : Broken Place) × (Contains breaches b × (OfDocument b ≡ f))) ⊎ Contains (bound_told is_passed) f)
  told_cases f c = elim (Contains-append_cases (map OfData faults) (map OfDocument breaches ++ bound_told is_passed) f c) [
    | inl h ↦ inl (from_map OfData faults f h)
    | inr h ↦ elim (Contains-append_cases (map OfDocument breaches) (bound_told is_passed) f h) [
      | inl k ↦ inr (inl (from_map OfDocument breaches f k))
      | inr k ↦ inr (inr k)
    ]
  ]

-- the bound is told without a place
pub bound_is : (is_passed : Bool) (f : PlacedDocumentFault) → Contains (bound_told is_passed) f → IsTrue is_passed × (f ≡ OfLimit None)
bound_is false f c = absurd (not_in_nil f c)
bound_is true f c = (refl, only (OfLimit None) f c)
