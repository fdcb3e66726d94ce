-- Lemmas on the first of a name.
use Rattle.std.proofs.Common.{◌≡◌, ℕ, Bool, true, false, ◌||◌, List, [], ◌∷◌, ◌++◌, Option, None, Some, refl, ap, ◌∙◌, cond, is_some}
use Rattle.std.specs.List.{find}
use Rattle.std.specs.Option.{option_or}
use Rattle.std.specs.Str.{bytes_eq}
use Rattle.std.proofs.lemmas.List.Folds.{find-append}
use Rattle.std.proofs.lemmas.Slice.Eq.{bytes_eq-Decides}
use Rattle.schema_components.specs.Lists.{has_name}

some_first : {A : Type 0} (o p : Option A) → is_some o ≡ true → option_or o p ≡ o
some_first None p h = cc
some_first (Some a) p h = refl

or_none : {A : Type 0} (o : Option A) → option_or o None ≡ o
or_none None = refl
or_none (Some a) = refl

none_first : {A : Type 0} (o p : Option A) → is_some o ≡ false → option_or o p ≡ p
none_first None p h = refl
none_first (Some a) p h = cc

module _ {X : Type 0} (key : X → List ℕ) where
  abbrev pub named : List ℕ → X → Bool
  named n x = bytes_eq n (key x)

  -- one has the name where there is a first one
  pub some_named : (n : List ℕ) (xs : List X) → is_some (find (named n) xs) ≡ has_name key n xs
  some_named n [] = refl
  some_named n (x ∷ xs) = by (named n x) (some_named n xs)
    where
      by : (b : Bool) → is_some (find (named n) xs) ≡ has_name key n xs → is_some (cond b (Some x) (find (named n) xs)) ≡ (b || has_name key n xs)
      by true rest = refl
      by false rest = rest

  -- one is added after others, by whether it is of the name, and whether one of them has its name
  pub find_other : (n : List ℕ) (before : List X) (x : X) → named n x ≡ false → find (named n) (before ++ x ∷ []) ≡ find (named n) before
  find_other n before x other = find-append (named n) before (x ∷ []) ∙ ap (λ b. option_or (find (named n) before) (cond b (Some x) None)) other ∙ or_none (find (named n) before)

  pub find_seen : (n : List ℕ) (before : List X) (x : X) → has_name key (key x) before ≡ true → find (named n) (before ++ x ∷ []) ≡ find (named n) before
  find_seen n before x seen = find-append (named n) before (x ∷ []) ∙ by (named n x) refl
    where
      by : (b : Bool) → named n x ≡ b → option_or (find (named n) before) (cond b (Some x) None) ≡ find (named n) before
      by true e = some_first (find (named n) before) (Some x) (some_named n before ∙ ap (λ m. has_name key m before) ((bytes_eq-Decides n (key x)).0 e) ∙ seen)
      by false e = or_none (find (named n) before)

  pub find_new : (n : List ℕ) (before : List X) (x : X) → named n x ≡ true → has_name key n before ≡ false → find (named n) (before ++ x ∷ []) ≡ Some x
  find_new n before x is new =
      find-append (named n) before (x ∷ []) ∙ none_first (find (named n) before) (cond (named n x) (Some x) None) (some_named n before ∙ new)
      ∙ ap (λ b. cond b (Some x) None) is
