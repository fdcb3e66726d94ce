-- Filters.
use Rattle.std.proofs.Common.{◌≡◌, ◌⊎◌, Bool, true, false, cond, List, [], ◌∷◌, map, refl, sym, ap, subst, ◌∙◌, inl, inr, Contains, true≢false}
use Rattle.std.specs.List.{filter}
use Rattle.std.proofs.lemmas.List.Elements.{Contains-append_right}
use Rattle.rule_definitions.proofs.Lists.{not_in_nil, Contains-cons, Contains-first}

module _ {X Y : Type 0} (u : X → Y) (test : Y → Bool) where
  -- what passes of views is the views of what passes
  pub filter_view : (xs : List X) → map u (filter (λ x. test (u x)) xs) ≡ filter test (map u xs)
  filter_view [] = refl
  filter_view (x ∷ xs) = by (test (u x)) (filter_view xs)
    where
      by : (b : Bool) → map u (filter (λ z. test (u z)) xs) ≡ filter test (map u xs)
          → map u (cond b (x ∷ filter (λ z. test (u z)) xs) (filter (λ z. test (u z)) xs)) ≡ cond b (u x ∷ filter test (map u xs)) (filter test (map u xs))
      by true e = ap (λ l. u x ∷ l) e
      by false e = e

module _ {X : Type 0} (test : X → Bool) where
  -- what is kept was there, and passes
  pub filtered : (xs : List X) (y : X) → Contains (filter test xs) y → Contains xs y × (test y ≡ true)
  filtered [] y c = not_in_nil y c
  filtered (x ∷ xs) y c = by (test x) refl (λ h. filtered xs y h) c
    where
      by : (b : Bool) → test x ≡ b → (Contains (filter test xs) y → Contains xs y × (test y ≡ true)) → Contains (cond b (x ∷ filter test xs) (filter test xs)) y
          → Contains (x ∷ xs) y × (test y ≡ true)
      by true is rest h = elim (Contains-cons x (filter test xs) y h) [
        | inl e ↦ (Contains-first x xs y e, subst (λ z. test z ≡ true) e is)
        | inr r ↦ (Contains-append_right (x ∷ []) xs y (rest r).0, (rest r).1)
      ]
      by false is rest h = (Contains-append_right (x ∷ []) xs y (rest h).0, (rest h).1)

  -- what was there and passes is kept
  pub passing : (xs : List X) (y : X) → Contains xs y → test y ≡ true → Contains (filter test xs) y
  passing [] y c is = not_in_nil y c
  passing (x ∷ xs) y c is = by (test x) refl (λ h. passing xs y h is) (Contains-cons x xs y c)
    where
      by : (b : Bool) → test x ≡ b → (Contains xs y → Contains (filter test xs) y) → (x ≡ y) ⊎ Contains xs y → Contains (cond b (x ∷ filter test xs) (filter test xs)) y
      by true at rest (inl e) = Contains-first x (filter test xs) y e
      by true at rest (inr r) = Contains-append_right (x ∷ []) (filter test xs) y (rest r)
      by false at rest (inl e) = absurd (true≢false (sym is ∙ (sym (ap test e) ∙ at)))
      by false at rest (inr r) = rest r
