-- The quantifiers that rules are written with.
use Rattle.std.specs.Prelude.{◌≡◌, ℕ, ◌<◌, Bool, true, List, Option, None, Some, slice_get}

-- there is a value, and P holds of it
abbrev pub Present : {X : Type 0} → Option X → (X → Type 0) → Type 0
Present {X} o P = (x : X) × ((o ≡ Some x) × P x)

-- if there is a value, P holds of it
abbrev pub IfPresent : {X : Type 0} → Option X → (X → Type 0) → Type 0
IfPresent {X} o P = (x : X) → o ≡ Some x → P x

-- some name has a value, and P holds of the name and the value
abbrev pub Somewhere : {X : Type 0} → (List ℕ → Option X) → (List ℕ → X → Type 0) → Type 0
Somewhere f P = (n : List ℕ) × Present (f n) (P n)

-- P holds of some name among these
abbrev pub Among : (List ℕ → Bool) → (List ℕ → Type 0) → Type 0
Among has P = (n : List ℕ) × ((has n ≡ true) × P n)

-- P holds of some item and its index
abbrev pub AtSomeIndex : {X : Type 0} → List X → (ℕ → X → Type 0) → Type 0
AtSomeIndex xs P = (i : ℕ) × Present (slice_get xs i) (P i)

-- no name has a value
abbrev pub IsEmpty : {X : Type 0} → (List ℕ → Option X) → Type 0
IsEmpty f = (n : List ℕ) → f n ≡ None

module _ {X : Type 0} (name : X → List ℕ) (xs : List X) where
  -- no item has the name
  abbrev pub Lacks : List ℕ → Type 0
  Lacks n = AtSomeIndex xs (λ i x. name x ≡ n) → ⊥

  -- no item before this index has the name
  abbrev pub IsFirst : List ℕ → ℕ → Type 0
  IsFirst n i = AtSomeIndex xs (λ k y. (k < i) × (name y ≡ n)) → ⊥

  -- P holds of the first item that has the name, and its index
  abbrev pub FirstNamed : List ℕ → (ℕ → X → Type 0) → Type 0
  FirstNamed n P = AtSomeIndex xs (λ i x. (name x ≡ n) × (IsFirst n i × P i x))

  -- P holds of the first item of some name and of a later one of that name, each with its index
  abbrev pub Repeats : (ℕ → X → ℕ → X → Type 0) → Type 0
  Repeats P = AtSomeIndex xs (λ j later. FirstNamed (name later) (λ i first. (i < j) × P i first j later))
