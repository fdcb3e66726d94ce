-- Lemmas on the first of a name.
use Rattle.std.proofs.Common.{◌≡◌, ℕ, Bool, true, false, ◌||◌, List, [], ◌∷◌, ◌++◌, Some, refl, sym, ap, ◌∙◌, cond, if◌then◌else◌, is_some}
use Rattle.std.specs.List.{find}
use Rattle.std.specs.Str.{bytes_eq}
use Rattle.std.proofs.lemmas.Slice.Eq.{bytes_eq-Decides}
use Rattle.schema_fold_index.specs.in_components.Lists.{each_place_after, firsts, has_name}
use Rattle.schema_fold_index.proofs.in_components.Firsts.{has_name-push}

module _ {X : Type 0} (key : X → List ℕ) where
  abbrev pub named : List ℕ → X → Bool
  named n x = bytes_eq n (key x)

  -- one has the name where there is a first one
  pub some_named : (n : List ℕ) (xs : List X) → is_some (find (named n) xs) ≡ has_name key n xs
  some_named n [] = refl
  some_named n (x ∷ xs) = by (named n x) (some_named n xs)
    where
      by : (b : Bool) → is_some (find (named n) xs) ≡ has_name key n xs → is_some (cond b (Some x) (find (named n) xs)) ≡ (b || has_name key n xs)
      by true rest = refl
      by false rest = rest

  -- the first of a name is the first of it among the firsts
  abbrev first_here : List X → X → List X
  first_here before x = if has_name key (key x) before then [] else x ∷ []

  skip : (n : List ℕ) (x : X) (ys : List X) (c : Bool) → named n x ≡ false → find (named n) (cond c [] (x ∷ []) ++ ys) ≡ find (named n) ys
  skip n x ys true other = refl
  skip n x ys false other = ap (λ b. cond b (Some x) (find (named n) ys)) other

  find_after : (n : List ℕ) (before xs : List X) → has_name key n before ≡ false → find (named n) (each_place_after first_here before xs) ≡ find (named n) xs
  find_after n before [] new = refl
  find_after n before (x ∷ xs) new = by (named n x) refl (find_after n (before ++ x ∷ []) xs)
    where
      by : (b : Bool) → named n x ≡ b
          → (has_name key n (before ++ x ∷ []) ≡ false → find (named n) (each_place_after first_here (before ++ x ∷ []) xs) ≡ find (named n) xs)
          → find (named n) (first_here before x ++ each_place_after first_here (before ++ x ∷ []) xs) ≡ cond b (Some x) (find (named n) xs)
      by true e rest =
          let unseen : has_name key (key x) before ≡ false = ap (λ m. has_name key m before) (sym ((bytes_eq-Decides n (key x)).0 e)) ∙ new in
          ap (λ c. find (named n) (cond c [] (x ∷ []) ++ each_place_after first_here (before ++ x ∷ []) xs)) unseen
          ∙ ap (λ b. cond b (Some x) (find (named n) (each_place_after first_here (before ++ x ∷ []) xs))) e
      by false e rest =
          skip n x (each_place_after first_here (before ++ x ∷ []) xs) (has_name key (key x) before) e
          ∙ rest (has_name-push key n before x ∙ (λ i. new i || e i))

  pub find_firsts : (n : List ℕ) (xs : List X) → find (named n) (firsts key xs) ≡ find (named n) xs
  find_firsts n xs = find_after n [] xs refl
