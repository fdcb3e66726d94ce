-- Lists of faults that are told piece by piece, along other lists; and a test of each of a list.
use Rattle.std.proofs.Common.{◌≡◌, ◌+◌, ◌<◌, ◌≤◌, ◌∙◌, ℕ, Bool, true, false, ◌&&◌, List, [], ◌∷◌, ◌++◌, get_or, map, take, length, sym, ap, append-nil}
use Rattle.std.specs.List.{flat_map, list_all}
use Rattle.std.proofs.lemmas.List.{take_all}
use Rattle.std.proofs.lemmas.List.Folds.{list_all-append, list_all-map, list_all_at}
use Rattle.std.proofs.lemmas.Grind.{flat_map-append}
use Rattle.rule_definitions.proofs.Listing.{mapped_more}
use Rattle.rule_definitions.specs.Room.{◌⊕◌}
use Rattle.rule_definitions.proofs.Room.{room_both}

module _ {A X B : Type 0} (f : A → X) (tells : X → List B) where
  -- of the next element too
  pub all_more : (xs : List A) (i : ℕ) (x : A) → i < length xs → x ≡ get_or xs i x → flat_map tells (map f (take (i + 1) xs)) ≡ flat_map tells (map f (take i xs)) ++ tells (f x)
  all_more xs i x h e =
      ap (flat_map tells) (mapped_more f xs i x h e) ∙ flat_map-append tells (map f (take i xs)) (f x ∷ []) ∙ ap (λ l. flat_map tells (map f (take i xs)) ++ l) (append-nil (tells (f x)))

  pub told_more : (old now new : List B) (xs : List A) (i : ℕ) (x : A) → i < length xs → x ≡ get_or xs i x → now ≡ old ⊕ flat_map tells (map f (take i xs)) → new ≡ now ⊕ tells (f x)
      → new ≡ old ⊕ flat_map tells (map f (take (i + 1) xs))
  told_more old now new xs i x h e so_far step =
      step ∙ ap (λ l. l ⊕ tells (f x)) so_far ∙ room_both old (flat_map tells (map f (take i xs))) (tells (f x)) ∙ ap (λ l. old ⊕ l) (sym (all_more xs i x h e))

  -- of all
  pub told_all : (old now : List B) (xs : List A) (i : ℕ) → length xs ≤ i → now ≡ old ⊕ flat_map tells (map f (take i xs)) → now ≡ old ⊕ flat_map tells (map f xs)
  told_all old now xs i h so_far = so_far ∙ ap (λ l. old ⊕ flat_map tells (map f l)) (take_all i xs h)

-- a test of each
module _ {A X : Type 0} (f : A → X) (test : X → Bool) (xs : List A) (i : ℕ) where
  -- of the next element too
  pub tested_more : (x : A) → i < length xs → x ≡ get_or xs i x → list_all test (map f (take i xs)) ≡ true → test (f x) ≡ true → list_all test (map f (take (i + 1) xs)) ≡ true
  tested_more x h e so_far this =
      ap (list_all test) (mapped_more f xs i x h e) ∙ list_all-append test (map f (take i xs)) (f x ∷ []) ∙ (λ k. so_far k && (this k && true))

  -- an element that fails it
  pub tested_false : (x : A) → i < length xs → x ≡ get_or xs i x → test (f x) ≡ false → list_all test (map f xs) ≡ false
  tested_false x h e this = list_all-map test f xs ∙ list_all_at (λ y. test (f y)) xs i x h (sym (ap (λ y. test (f y)) e) ∙ this)

  -- of all
  pub tested_all : length xs ≤ i → list_all test (map f (take i xs)) ≡ true → list_all test (map f xs) ≡ true
  tested_all h so_far = ap (λ l. list_all test (map f l)) (sym (take_all i xs h)) ∙ so_far
