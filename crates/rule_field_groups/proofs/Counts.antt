-- Sums over the items of a list, and lists item by item.
use Rattle.std.proofs.Common.{◌≡◌, ◌∙◌, ℕ, suc, ◌+◌, ◌<◌, Bool, true, false, not, cond, List, [], ◌∷◌, ◌++◌, map, filter, flat_map, length, get_or, take, drop, refl, sym, ap, append-nil, add-one, arith}
use Rattle.std.specs.List.{sum}
use Rattle.std.specs.List.Sorted.{IsPermutation}
use Rattle.std.proofs.lemmas.List.{map-append}
use Rattle.std.proofs.lemmas.List.Concat.{flat_map-append}
use Rattle.std.proofs.lemmas.List.Sums.{sum-map, sum_by-append}
use Rattle.std.proofs.lemmas.List.Sorted.{sum_by-IsPermutation}
use Rattle.std.proofs.Math.Seq.{drop-cons}
use Rattle.rule_field_groups.proofs.Lists.{taken_more}

pub sums : {X : Type 0} (f : X → ℕ) (xs ys : List X) → sum (map f (xs ++ ys)) ≡ sum (map f xs) + sum (map f ys)
sums f xs ys = omega (arith, sum-map f (xs ++ ys), sum-map f xs, sum-map f ys, sum_by-append f xs ys)

-- in another order
pub sums_order : {X : Type 0} (f : X → ℕ) (xs ys : List X) → IsPermutation xs ys → sum (map f ys) ≡ sum (map f xs)
sums_order f xs ys order = sum-map f ys ∙ sum_by-IsPermutation f xs ys order ∙ sym (sum-map f xs)

pub drop_first : {X : Type 0} (xs : List X) (i : ℕ) (x : X) → i < length xs → x ≡ get_or xs i x → drop i xs ≡ x ∷ drop (i + 1) xs
drop_first xs i x h e = drop-cons xs i x h ∙ (rw add-one (ap (λ y. y ∷ drop (suc i) xs) (sym e)))

-- what is left of a list, its first one taken
pub left_of : {X : Type 0} (f : X → ℕ) (xs : List X) (i : ℕ) (x : X) → i < length xs → x ≡ get_or xs i x → sum (map f (drop i xs)) ≡ f x + sum (map f (drop (i + 1) xs))
left_of f xs i x h e = omega (arith, ap (λ l. sum (map f l)) (drop_first xs i x h e), sums f (x ∷ []) (drop (i + 1) xs))

-- the front with the next one
pub front_with : {X Y : Type 0} (f : X → Y) (xs : List X) (i : ℕ) (x : X) → i < length xs → x ≡ get_or xs i x → map f (take (i + 1) xs) ≡ map f (take i xs) ++ f x ∷ []
front_with f xs i x h e = ap (map f) (taken_more xs i x h e) ∙ map-append f (take i xs) (x ∷ [])

-- what one more gives stands last
pub flat_push : {X Y : Type 0} (f : X → List Y) (xs : List X) (x : X) → flat_map f (xs ++ x ∷ []) ≡ flat_map f xs ++ f x
flat_push f xs x = flat_map-append f xs (x ∷ []) ∙ ap (λ l. flat_map f xs ++ l) (append-nil (f x))

-- those that pass a test, and those that do not
pub split_length : {X : Type 0} (test : X → Bool) (xs : List X) → length (filter test xs) + length (filter (λ x. not (test x)) xs) ≡ length xs
split_length test [] = refl
split_length test (x ∷ xs) = by (test x) (split_length test xs)
  where
    by : (b : Bool) → length (filter test xs) + length (filter (λ y. not (test y)) xs) ≡ length xs
        → length (cond b (x ∷ filter test xs) (filter test xs)) + length (cond (not b) (x ∷ filter (λ y. not (test y)) xs) (filter (λ y. not (test y)) xs)) ≡ length (x ∷ xs)
    by true h = omega (arith, h)
    by false h = omega (arith, h)
