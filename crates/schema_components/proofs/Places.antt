-- Lemmas on what is said of each place of a list.
use Rattle.std.proofs.Common.{◌≡◌, ℕ, ◌<◌, ◌⊎◌, List, [], ◌∷◌, ◌++◌, get_or, flat_map, length, refl, sym, ap, subst, ◌∙◌, inl, inr, append_assoc, Contains, zero, suc, arith}
use Rattle.std.proofs.lemmas.List.Elements.{Contains-append_left, Contains-append_right, Contains-append_cases}
use Rattle.std.proofs.lemmas.List.{append-nil}
use Rattle.schema_components.specs.Lists.{each_place, each_place_after, AtSomePlace}

module _ {X Y : Type 0} (f : List X → X → List Y) where
  each_place_after-append : (before xs ys : List X) → each_place_after f before (xs ++ ys) ≡ each_place_after f before xs ++ each_place_after f (before ++ xs) ys
  each_place_after-append before [] ys = ap (λ b. each_place_after f b ys) (sym (append-nil before))
  each_place_after-append before (x ∷ xs) ys =
      ap (λ r. f before x ++ r) (each_place_after-append (before ++ x ∷ []) xs ys ∙ ap (λ b. each_place_after f (before ++ x ∷ []) xs ++ each_place_after f b ys) (append_assoc before (x ∷ []) xs))
      ∙ sym (append_assoc (f before x) (each_place_after f (before ++ x ∷ []) xs) (each_place_after f (before ++ x ∷ xs) ys))

  pub each_place-push : (xs : List X) (x : X) → each_place f (xs ++ x ∷ []) ≡ each_place f xs ++ f xs x
  each_place-push xs x = each_place_after-append [] xs (x ∷ []) ∙ ap (λ r. each_place f xs ++ r) (append-nil (f xs x))

module _ {X : Type 0} where
  pub not_in_nil : (y : X) → Contains [] y → ⊥
  not_in_nil y h = absurd (omega (arith, h.1))

  pub Contains-cons : (x : X) (xs : List X) (y : X) → Contains (x ∷ xs) y → (x ≡ y) ⊎ Contains xs y
  Contains-cons x xs y (k, h, e) = by k h e
    where
      by : (k : ℕ) → k < length (x ∷ xs) → get_or (x ∷ xs) k y ≡ y → (x ≡ y) ⊎ Contains xs y
      by zero h e = inl e
      by (suc k) h e = inr (k, omega arith, e)

  pub Contains-first : (x : X) (xs : List X) (y : X) → x ≡ y → Contains (x ∷ xs) y
  Contains-first x xs y e = (0, omega arith, e)

  pub Contains-rest : (x : X) (xs : List X) (y : X) → Contains xs y → Contains (x ∷ xs) y
  Contains-rest x xs y h = Contains-append_right (x ∷ []) xs y h

-- what is in the list that f gives was given at some place
module _ {X Y : Type 0} (f : List X → X → List Y) where
  found_after : (before xs : List X) (y : Y) → Contains (each_place_after f before xs) y → AtSomePlace (λ b x. Contains (f (before ++ b) x) y) xs
  found_after before [] y h = absurd (not_in_nil y h)
  found_after before (x ∷ xs) y h = elim (Contains-append_cases (f before x) (each_place_after f (before ++ x ∷ []) xs) y h) [
    | inl e ↦ ([], (x, ((xs, refl), subst (λ b. Contains (f b x) y) (sym (append-nil before)) e)))
    | inr r ↦ let p = found_after (before ++ x ∷ []) xs y r in
        (x ∷ p.0, (p.1.0, ((p.1.1.0.0, ap (λ l. x ∷ l) p.1.1.0.1), subst (λ b. Contains (f b p.1.0) y) (append_assoc before (x ∷ []) p.0) p.1.1.1)))
  ]

  pub found_at : (xs : List X) (y : Y) → Contains (each_place f xs) y → AtSomePlace (λ b x. Contains (f b x) y) xs
  found_at xs y h = found_after [] xs y h

  pub given_at : (xs : List X) (y : Y) → AtSomePlace (λ b x. Contains (f b x) y) xs → Contains (each_place f xs) y
  given_at xs y (b, (x, ((after, e), h))) =
      subst (λ l. Contains (each_place f l) y) (sym e)
      (subst (λ l. Contains l y) (sym (each_place_after-append f [] b (x ∷ after)))
      (Contains-append_right (each_place f b) (f b x ++ each_place_after f (b ++ x ∷ []) after) y
      (Contains-append_left (f b x) (each_place_after f (b ++ x ∷ []) after) y h)))

-- what f gives of each element alone
module _ {X Y : Type 0} (f : X → List Y) where
  each_place_after-flat_map : (before xs : List X) → each_place_after (λ b x. f x) before xs ≡ flat_map f xs
  each_place_after-flat_map before [] = refl
  each_place_after-flat_map before (x ∷ xs) = ap (λ l. f x ++ l) (each_place_after-flat_map (before ++ x ∷ []) xs)

  pub found_among : (xs : List X) (y : Y) → Contains (flat_map f xs) y → AtSomePlace (λ b x. Contains (f x) y) xs
  found_among xs y h = found_at (λ b x. f x) xs y (subst (λ l. Contains l y) (sym (each_place_after-flat_map [] xs)) h)

  pub given_among : (xs : List X) (y : Y) → AtSomePlace (λ b x. Contains (f x) y) xs → Contains (flat_map f xs) y
  given_among xs y h = subst (λ l. Contains l y) (each_place_after-flat_map [] xs) (given_at (λ b x. f x) xs y h)

-- P for Q at a place
pub AtSomePlace-map : {X : Type 0} {P Q : List X → X → Type 0} (xs : List X) → ((b : List X) (x : X) → P b x → Q b x) → AtSomePlace P xs → AtSomePlace Q xs
AtSomePlace-map xs f (b, (x, (at, p))) = (b, (x, (at, f b x p)))

-- the only element, none, and the choice of two lists
module _ {Y : Type 0} where
  pub only : (x y : Y) → Contains (x ∷ []) y → y ≡ x
  only x y h = elim (Contains-cons x [] y h) [ inl e ↦ sym e | inr r ↦ absurd (not_in_nil y r) ]

  pub is_only : (x y : Y) → y ≡ x → Contains (x ∷ []) y
  is_only x y e = Contains-first x [] y (sym e)
