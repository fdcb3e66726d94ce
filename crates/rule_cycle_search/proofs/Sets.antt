-- Steps after a write.
use Rattle.std.proofs.Common.{◌≡◌, ℕ, ◌<◌, ◌+◌, ◌==◌, ◌⊎◌, Bool, false, not, cond, List, [], ◌∷◌, length, get_or, set, Some, refl, sym, ap, ◌∙◌, inl, inr, zero, suc, true≢false, arith}
use Rattle.std.specs.Prelude.{slice_get}
use Rattle.std.specs.Option.{option_map_or}
use Rattle.std.proofs.lemmas.Bool.{cases_lt, eq-eqb}
use Rattle.std.proofs.lemmas.Option.{slice_get_past, slice_get-get_or}
use Rattle.std.proofs.lemmas.List.Sums.{sum_by-set}
use Rattle.rule_cycle_search.specs.declared.steps.Step.{Step}
use Rattle.rule_cycle_search.specs.NodeSteps.{is_in, IsIn, via_at, left}

pub slice_get-set_cases : {X : Type 0} (xs : List X) (i : ℕ) (y : X) (n : ℕ) → i < length xs → ((n ≡ i) × (slice_get (set xs i y) n ≡ Some y)) ⊎ ((n ≡ i → ⊥) × (slice_get (set xs i y) n ≡ slice_get xs n))
slice_get-set_cases [] i y n h = absurd (omega arith)
slice_get-set_cases (x ∷ xs) zero y zero h = inl (refl, refl)
slice_get-set_cases (x ∷ xs) zero y (suc n) h = inr ((λ e. omega arith), refl)
slice_get-set_cases (x ∷ xs) (suc i) y zero h = inr ((λ e. omega arith), refl)
slice_get-set_cases (x ∷ xs) (suc i) y (suc n) h = elim (slice_get-set_cases xs i y n (omega arith)) [
  | inl s ↦ inl (ap suc s.0, s.1)
  | inr s ↦ inr ((λ e. s.0 (omega arith)), s.1)
]

-- the steps after one is written
pub set_cases : (steps : List Step) (i c v n : ℕ) → i < length steps
    → ((n ≡ i) × (IsIn (set steps i (record { center = c; via = v })) c n × (via_at (set steps i (record { center = c; via = v })) n ≡ v)))
    ⊎ ((n ≡ i → ⊥) × (slice_get (set steps i (record { center = c; via = v })) n ≡ slice_get steps n))
set_cases steps i c v n h = elim (slice_get-set_cases steps i (record { center = c; via = v }) n h) [
  | inl s ↦ inl (s.0, (ap (λ o. option_map_or (λ (x : Step). x.center == c) o false) s.1 ∙ eq-eqb c c refl, ap (λ o. option_map_or (λ (x : Step). x.via) o n) s.1))
  | inr s ↦ inr s
]

-- what is the same at a node
pub in_same : (new old : List Step) (c n : ℕ) → slice_get new n ≡ slice_get old n → is_in new c n ≡ is_in old c n
in_same new old c n e = ap (λ o. option_map_or (λ (x : Step). x.center == c) o false) e

pub via_same : (new old : List Step) (n : ℕ) → slice_get new n ≡ slice_get old n → via_at new n ≡ via_at old n
via_same new old n e = ap (λ o. option_map_or (λ (x : Step). x.via) o n) e

pub in_within : (steps : List Step) (c n : ℕ) → IsIn steps c n → n < length steps
in_within steps c n h = elim (cases_lt n (length steps)) [
  | inl low ↦ low
  | inr high ↦ absurd (true≢false (sym h ∙ ap (λ o. option_map_or (λ (x : Step). x.center == c) o false) (slice_get_past steps n high)))
]

-- one more has a step
pub left_set : (steps : List Step) (i c v : ℕ) → i < length steps → is_in steps c i ≡ false → left c (set steps i (record { center = c; via = v })) + 1 ≡ left c steps
left_set steps i c v h f =
    let d : Step = record { center = c; via = v } in
    let was : ((get_or steps i d).center == c) ≡ false = sym (ap (λ o. option_map_or (λ (x : Step). x.center == c) o false) (slice_get-get_or steps i d h)) ∙ f in
    let one : cond (not ((get_or steps i d).center == c)) 1 0 ≡ 1 = ap {B = ℕ} (λ (b : Bool). cond (not b) 1 0) was in
    let none : cond (not (c == c)) 1 0 ≡ 0 = ap {B = ℕ} (λ (b : Bool). cond (not b) 1 0) (eq-eqb c c refl) in
    omega (arith, sum_by-set (λ (s : Step). cond (not (s.center == c)) 1 0) steps i d d h, one, none)
