-- The n-th element that passes a test, and the element that a call lends.
use Rattle.std.proofs.Common.{◌≡◌, ℕ, zero, suc, ◌+◌, ◌-◌, Bool, true, false, List, [], ◌∷◌, length, Option, None, Some, refl, sym, ap, ◌∙◌, arith, filter, slice_get, MutBor}
use Rattle.std.specs.Bool.{◌==◌}
use Rattle.std.specs.Option.{option_map}
use Rattle.std.specs.List.{IsItemAtMut}
use Rattle.std.proofs.lemmas.Option.{slice_get_past, slice_get_read}
use Rattle.tree_directives.specs.NamedNodes.{nth_place}

-- at its place stands the n-th of those that pass
pub nth_place-get : {A : Type 0} (p : A → Bool) (n : ℕ) (xs : List A) → slice_get xs (nth_place p n xs) ≡ slice_get (filter p xs) n
nth_place-get p n [] = refl
nth_place-get p n (x ∷ xs) = at (p x) n refl (λ m. nth_place-get p m xs) where
  past : (k : ℕ) → slice_get (x ∷ xs) (1 + k) ≡ slice_get xs k
  past k = let one : 1 + k ≡ suc k = omega arith in ap (slice_get (x ∷ xs)) one

  at : (b : Bool) (m : ℕ) → p x ≡ b → ((k : ℕ) → slice_get xs (nth_place p k xs) ≡ slice_get (filter p xs) k) → slice_get (x ∷ xs) (nth_place p m (x ∷ xs)) ≡ slice_get (filter p (x ∷ xs)) m
  at true zero e h = rw e refl
  at true (suc m) e h = let ne : (suc m == 0) ≡ false = grind arith in let one : suc m - 1 ≡ m = omega arith in rw (e, ne, one) (past _ ∙ h m)
  at false m e h = rw e (past _ ∙ h m)

-- what is lent by `get_mut` is the element there, if there is one
pub lent_item : {A : Type 0} (xs : List A) (i : ℕ) (r : Option (MutBor A)) → IsItemAtMut xs i r → option_map (λ x. x.now) r ≡ slice_get xs i
lent_item xs i None h = sym (slice_get_past xs i h.3)
lent_item xs i (Some x) h = sym (slice_get_read xs (length xs) i x.now refl h.3.0 (h.3.1 x.now))
