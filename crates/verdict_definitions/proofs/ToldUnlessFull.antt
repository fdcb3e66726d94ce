-- What is told where the first of many are.
use Rattle.std.proofs.Common.{◌≡◌, ℕ, ◌≤◌, ◌⊎◌, List, map, take, drop, length, inl, inr, sym, subst, Contains, arith}
use Rattle.std.proofs.lemmas.Bool.{cases_lt}
use Rattle.std.proofs.lemmas.List.{length-map, length-take-le, take-append-drop, take_all}
use Rattle.std.proofs.lemmas.List.Elements.{Contains-append_left}
use Rattle.rule_definitions.specs.Room.{most_told}
use Rattle.graphql_faults.proofs.in_document_rule_definitions.Unplaced.{contains_map, contains_unmap}
use Rattle.verdict_definitions.specs.Says.{AnyFault}
use Rattle.verdict_definitions.specs.Answer.{IsToldUnlessFull}

-- one of the first is one of all
pub of_first : {X : Type 0} (most : ℕ) (all : List X) (x : X) → Contains (take most all) x → Contains all x
of_first most all x h = subst (λ l. Contains l x) (take-append-drop most all) (Contains-append_left (take most all) (drop most all) x h)

-- each of all is one of the first, or those are as many as may be
first_or_full : {X : Type 0} (most : ℕ) (all : List X) (x : X) → Contains all x → Contains (take most all) x ⊎ (most ≤ length (take most all))
first_or_full most all x h = elim (cases_lt (length all) most) [
  | inl fits ↦ inl (subst (λ l. Contains l x) (sym (take_all most all (omega (arith, fits)))) h)
  | inr full ↦ let long = length-take-le most all full in inr (omega (arith, long))
]

-- these faults are of the first of all
module _ {X : Type 0} (of : X → AnyFault) (faults : List AnyFault) (all : List X) (first : faults ≡ map of (take most_told all)) where
  -- each of all is told, unless as many are told as one call tells
  pub told_unless_full : (x : X) → Contains all x → IsToldUnlessFull faults (of x)
  told_unless_full x h = subst (λ l. IsToldUnlessFull l (of x)) (sym first) (elim (first_or_full most_told all x h) [
    | inl c ↦ inl (contains_map of (take most_told all) x c)
    | inr full ↦ let long = length-map (take most_told all) of in inr (omega (arith, full, long))
  ])

  -- what is told is of one of all
  pub told_of : (fault : AnyFault) → Contains faults fault → (x : X) × (Contains all x × (of x ≡ fault))
  told_of fault h =
      let p = contains_unmap of (take most_told all) fault (subst (λ l. Contains l fault) first h) in
      (p.0, (of_first most_told all p.0 p.1.0, p.1.1))
