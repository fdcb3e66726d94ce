-- Lemmas on lists, once for all crates that depend on this one.
use Rattle.std.proofs.Common.{◌≡◌, ℕ, ◌<◌, ◌⊎◌, List, [], ◌∷◌, get_or, map, length, ◌==◌, true, refl, sym, ap, subst, inl, inr, Option, None, Some, Contains, zero, suc, arith, slice_get}
use Rattle.std.specs.List.{flat_map}
use Rattle.std.specs.Option.{option_map}
use Rattle.std.proofs.lemmas.Bool.{eqb-true}
use Rattle.std.proofs.lemmas.List.Elements.{Contains-append_left, Contains-append_right, Contains-append_cases}

module _ {X : Type 0} where
  pub not_in_nil : {R : Type 0} (y : X) → Contains [] y → R
  not_in_nil y h = absurd (omega (arith, h.1))

  pub empty_is : (xs : List X) → (length xs == 0) ≡ true → xs ≡ []
  empty_is [] h = refl
  empty_is (x ∷ xs) h = absurd (omega (arith, eqb-true (length (x ∷ xs)) 0 h))

  pub Contains-cons : (x : X) (xs : List X) (y : X) → Contains (x ∷ xs) y → (x ≡ y) ⊎ Contains xs y
  Contains-cons x xs y (k, h, e) = by k h e
    where
      by : (k : ℕ) → k < length (x ∷ xs) → get_or (x ∷ xs) k y ≡ y → (x ≡ y) ⊎ Contains xs y
      by zero h e = inl e
      by (suc k) h e = inr (k, omega arith, e)

  pub Contains-first : (x : X) (xs : List X) (y : X) → x ≡ y → Contains (x ∷ xs) y
  Contains-first x xs y e = (0, omega arith, e)

  pub only : (x y : X) → Contains (x ∷ []) y → y ≡ x
  only x y h = elim (Contains-cons x [] y h) [ inl e ↦ sym e | inr r ↦ not_in_nil y r ]

  pub is_only : (x y : X) → y ≡ x → Contains (x ∷ []) y
  is_only x y e = Contains-first x [] y (sym e)

-- what each of xs gives
module _ {X Y : Type 0} (f : X → List Y) (y : Y) where
  pub found_in : (xs : List X) → Contains (flat_map f xs) y → (x : X) × (Contains xs x × Contains (f x) y)
  found_in [] h = not_in_nil y h
  found_in (x ∷ xs) h = elim (Contains-append_cases (f x) (flat_map f xs) y h) [
    | inl e ↦ (x, (Contains-first x xs x refl, e))
    | inr r ↦ let p = found_in xs r in (p.0, (Contains-append_right (x ∷ []) xs p.0 p.1.0, p.1.1))
  ]

  pub given_in : (xs : List X) (x : X) → Contains xs x → Contains (f x) y → Contains (flat_map f xs) y
  given_in [] x h c = not_in_nil x h
  given_in (z ∷ xs) x h c = elim (Contains-cons z xs x h) [
    | inl e ↦ Contains-append_left (f z) (flat_map f xs) y (subst (λ w. Contains (f w) y) (sym e) c)
    | inr r ↦ Contains-append_right (f z) (flat_map f xs) y (given_in xs x r c)
  ]

-- by index
module _ {X : Type 0} where
  pub index_found : (xs : List X) (x : X) → Contains xs x → (i : ℕ) × (slice_get xs i ≡ Some x)
  index_found [] x h = not_in_nil x h
  index_found (z ∷ xs) x h = elim (Contains-cons z xs x h) [
    | inl e ↦ (0, ap Some e)
    | inr r ↦ let p = index_found xs x r in (suc p.0, p.1)
  ]

  pub index_given : (xs : List X) (i : ℕ) (x : X) → slice_get xs i ≡ Some x → Contains xs x
  index_given [] i x e = cc
  index_given (z ∷ xs) zero x e = Contains-first z xs x cc
  index_given (z ∷ xs) (suc i) x e = Contains-append_right (z ∷ []) xs x (index_given xs i x e)

module _ {X Y : Type 0} (f : X → Y) where
  -- what a value comes from
  pub mapped_some : (o : Option X) (y : Y) → option_map f o ≡ Some y → (x : X) × ((o ≡ Some x) × (y ≡ f x))
  mapped_some None y e = cc
  mapped_some (Some x) y e = (x, (refl, cc))

  pub mapped_none : (o : Option X) → option_map f o ≡ None → o ≡ None
  mapped_none None e = refl
  mapped_none (Some x) e = cc

  pub slice_get-map : (xs : List X) (i : ℕ) → slice_get (map f xs) i ≡ option_map f (slice_get xs i)
  slice_get-map [] i = refl
  slice_get-map (x ∷ xs) zero = refl
  slice_get-map (x ∷ xs) (suc i) = slice_get-map xs i
