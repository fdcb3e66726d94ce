-- How long lists can be in all that have the same things in other groups: those of at most two are as many as things times things.
use Rattle.std.proofs.Common.{◌≡◌, ◌∙◌, ℕ, zero, suc, ◌+◌, ◌*◌, ◌≤◌, List, [], ◌∷◌, ◌++◌, map, length, slice_get, Some, Contains, refl, sym, ap, subst, arith, length-append, inl, inr}
use Rattle.std.specs.List.{sum}
use Rattle.std.specs.List.Sorted.{IsPermutation}
use Rattle.std.proofs.Math.Nat.{mul-le-mul_left}
use Rattle.std.proofs.lemmas.List.{length-map}
use Rattle.std.proofs.lemmas.List.Sums.{sum_by-cons}
use Rattle.std.proofs.lemmas.List.Elements.{Contains-append_left, Contains-append_right, Contains-append_cases}
use Rattle.std.proofs.lemmas.List.Sorted.{IsPermutation-sym, Contains-permutation}
use Rattle.std.proofs.lemmas.Option.{slice_get_within}
use Rattle.rule_cycle_search.specs.Paths.{HasNoRepeat}
use Rattle.rule_cycle_search.proofs.Lists.{not_in_nil, only, Contains-cons, Contains-first, index_found, index_given}
use Rattle.list_interner.specs.NumberLists.{HaveSame, length_above_two}
use Rattle.list_interner.proofs.Standing.{in_map, same_sym, same_trans, no_repeat_order}

-- the square of a number that is no smaller
pub squares : (m n : ℕ) → m ≤ n → m * m ≤ n * n
squares m n le = omega (arith, mul-le-mul_left m le, mul-le-mul_left n le)

module _ {X : Type 0} where
  pub in_rest : (x : X) (xs : List X) (y : X) → Contains xs y → Contains (x ∷ xs) y
  in_rest x xs y c = let i = index_found xs y c in index_given (x ∷ xs) (suc i.0) y i.1

  -- none is among those after it
  abbrev pub Apart : List X → Type 0
  Apart [] = Unit {0}
  Apart (x ∷ xs) = (Contains xs x → ⊥) × Apart xs

  apart_from : (xs : List X) → HasNoRepeat xs → Apart xs
  apart_from [] h = tt
  apart_from (x ∷ xs) h = (
    λ c. let i = index_found xs x c in let z = h 0 (suc i.0) x refl i.1 in absurd (omega (arith, z)),
    apart_from xs (λ i j y a b. let e = h (suc i) (suc j) y a b in omega (arith, e)),
  )

  some_is : (y x : X) → Some y ≡ Some x → y ≡ x
  some_is y x e = cc

  pub from_apart : (xs : List X) → Apart xs → HasNoRepeat xs
  from_apart [] a i j x h k = absurd (omega (arith, slice_get_within [] i x h))
  from_apart (y ∷ ys) a zero zero x h k = refl
  from_apart (y ∷ ys) a zero (suc j) x h k = absurd (a.0 (subst (Contains ys) (sym (some_is y x h)) (index_given ys j x k)))
  from_apart (y ∷ ys) a (suc i) zero x h k = absurd (a.0 (subst (Contains ys) (sym (some_is y x k)) (index_given ys i x h)))
  from_apart (y ∷ ys) a (suc i) (suc j) x h k = ap suc (from_apart ys a.1 i j x h k)

  pub apart_append : (xs ys : List X) → Apart xs → Apart ys → ((x : X) → Contains xs x → Contains ys x → ⊥) → Apart (xs ++ ys)
  apart_append [] ys a b none = b
  apart_append (x ∷ xs) ys a b none = (
    λ c. elim (Contains-append_cases xs ys x c) [ inl h ↦ a.0 h | inr h ↦ none x (Contains-first x xs x refl) h ],
    apart_append xs ys a.1 b (λ y c d. none y (in_rest x xs y c) d),
  )

  -- a list without the element at an index
  abbrev without : List X → ℕ → List X
  without [] k = []
  without (y ∷ ys) zero = ys
  without (y ∷ ys) (suc k) = y ∷ without ys k

  length_without : (ys : List X) (k : ℕ) (x : X) → slice_get ys k ≡ Some x → length ys ≡ 1 + length (without ys k)
  length_without [] k x e = cc
  length_without (y ∷ ys) zero x e = omega arith
  length_without (y ∷ ys) (suc k) x e = omega (arith, length_without ys k x e)

  stays : (ys : List X) (k : ℕ) (x y : X) → slice_get ys k ≡ Some x → (y ≡ x → ⊥) → Contains ys y → Contains (without ys k) y
  stays [] k x y e differ c = not_in_nil y c
  stays (z ∷ ys) zero x y e differ c = elim (Contains-cons z ys y c) [
    | inl i ↦ let same : z ≡ x = cc in absurd (differ (sym i ∙ same))
    | inr r ↦ r
  ]
  stays (z ∷ ys) (suc k) x y e differ c = elim (Contains-cons z ys y c) [
    | inl i ↦ Contains-first z (without ys k) y i
    | inr r ↦ in_rest z (without ys k) y (stays ys k x y e differ r)
  ]

  as_long : (xs ys : List X) → Apart xs → ((x : X) → Contains xs x → Contains ys x) → length xs ≤ length ys
  as_long [] ys apart within = omega arith
  as_long (x ∷ xs) ys apart within =
      let i = index_found ys x (within x (Contains-first x xs x refl)) in
      let less : length xs ≤ length (without ys i.0) =
      as_long xs (without ys i.0) apart.1 (λ y c. stays ys i.0 x y i.1 (λ e. apart.0 (subst (Contains xs) e c)) (within y (in_rest x xs y c))) in
      omega (arith, less, length_without ys i.0 x i.1)

  -- a list without repeats is no longer than one that has all its members
  pub no_longer : (xs ys : List X) → HasNoRepeat xs → ((x : X) → Contains xs x → Contains ys x) → length xs ≤ length ys
  no_longer xs ys apart = as_long xs ys (apart_from xs apart)

-- each of these with each of those
module _ {X : Type 0} where
  abbrev pub pairs_of : List X → List X → List (X × X)
  pairs_of [] ys = []
  pairs_of (x ∷ xs) ys = map (λ y. (x, y)) ys ++ pairs_of xs ys

  pub length_pairs : (xs ys : List X) → length (pairs_of xs ys) ≡ length xs * length ys
  length_pairs [] ys = omega arith
  length_pairs (x ∷ xs) ys =
      let one : List (X × X) = map (λ y. (x, y)) ys in
      omega (arith, length-append one (pairs_of xs ys), length-map {B = X × X} ys (λ (y : X). (x, y)), length_pairs xs ys)

  pub in_pairs : (xs ys : List X) (x y : X) → Contains xs x → Contains ys y → Contains (pairs_of xs ys) (x, y)
  in_pairs [] ys x y c d = not_in_nil x c
  in_pairs (z ∷ xs) ys x y c d = elim (Contains-cons z xs x c) [
    | inl e ↦ Contains-append_left (map (λ w. (z, w)) ys) (pairs_of xs ys) (x, y) (subst (λ u. Contains {X = X × X} (map (λ w. (z, w)) ys) (u, y)) e (in_map {Y = X × X} (λ w. (z, w)) ys y d))
    | inr r ↦ Contains-append_right (map (λ w. (z, w)) ys) (pairs_of xs ys) (x, y) (in_pairs xs ys x y r d)
  ]

  -- a list of one or two as pairs: as many as it has members
  abbrev ordered : List X → List (X × X)
  ordered [] = []
  ordered (x ∷ []) = (x, x) ∷ []
  ordered (x ∷ y ∷ []) = (x, y) ∷ (y, x) ∷ []
  ordered (x ∷ y ∷ z ∷ rest) = []

  length_ordered : (l : List X) → length l ≡ length (ordered l) + length_above_two l
  length_ordered [] = omega arith
  length_ordered (x ∷ []) = omega arith
  length_ordered (x ∷ y ∷ []) = omega arith
  length_ordered (x ∷ y ∷ z ∷ rest) = omega arith

  -- the members of both
  abbrev of_pair : X × X → List X
  of_pair p = p.0 ∷ p.1 ∷ []

  turned : (x y : X) → HaveSame (x ∷ y ∷ []) (y ∷ x ∷ [])
  turned x y z = (one x y, one y x)
    where
      one : (a b : X) → Contains (a ∷ b ∷ []) z → Contains (b ∷ a ∷ []) z
      one a b c = elim (Contains-cons a (b ∷ []) z c) [
        | inl e ↦ in_rest b (a ∷ []) z (Contains-first a [] z e)
        | inr r ↦ Contains-first b (a ∷ []) z (sym (only b z r))
      ]

  twice : (x : X) → HaveSame (x ∷ []) (x ∷ x ∷ [])
  twice x z = (λ c. in_rest x (x ∷ []) z c, λ c. elim (Contains-cons x (x ∷ []) z c) [ inl e ↦ Contains-first x [] z e | inr r ↦ r ])

  of_ordered : (l : List X) (p : X × X) → Contains (ordered l) p → HaveSame l (of_pair p)
  of_ordered [] p c = not_in_nil p c
  of_ordered (x ∷ []) p c = subst (λ q. HaveSame (x ∷ []) (of_pair q)) (sym (only (x, x) p c)) (twice x)
  of_ordered (x ∷ y ∷ []) p c = elim (Contains-cons (x, y) ((y, x) ∷ []) p c) [
    | inl e ↦ subst (λ q. HaveSame (x ∷ y ∷ []) (of_pair q)) e (λ z. (λ k. k, λ k. k))
    | inr r ↦ subst (λ q. HaveSame (x ∷ y ∷ []) (of_pair q)) (sym (only (y, x) p r)) (turned x y)
  ]
  of_ordered (x ∷ y ∷ z ∷ rest) p c = not_in_nil p c

  ordered_apart : (l : List X) → HasNoRepeat l → Apart (ordered l)
  ordered_apart [] apart = tt
  ordered_apart (x ∷ []) apart = (λ c. not_in_nil (x, x) c, tt)
  ordered_apart (x ∷ y ∷ []) apart = (
    λ c. let e : x ≡ y = ap (λ (p : X × X). p.0) (only (y, x) (x, y) c) in let z = apart 0 1 y (ap (λ a. Some a) e) refl in absurd (omega (arith, z)),
    (λ c. not_in_nil (y, x) c, tt),
  )
  ordered_apart (x ∷ y ∷ z ∷ rest) apart = tt

  abbrev all_ordered : List (List X) → List (X × X)
  all_ordered [] = []
  all_ordered (l ∷ ls) = ordered l ++ all_ordered ls

  found_ordered : (ls : List (List X)) (p : X × X) → Contains (all_ordered ls) p → (l : List X) × (Contains ls l × Contains (ordered l) p)
  found_ordered [] p c = not_in_nil p c
  found_ordered (l ∷ ls) p c = elim (Contains-append_cases (ordered l) (all_ordered ls) p c) [
    | inl a ↦ (l, (Contains-first l ls l refl, a))
    | inr b ↦ let k = found_ordered ls p b in (k.0, (in_rest l ls k.0 k.1.0, k.1.1))
  ]

  -- no two of the lists have the same members
  abbrev pub Differ : List (List X) → Type 0
  Differ lists = (i j : ℕ) (a b : List X) → slice_get lists i ≡ Some a → slice_get lists j ≡ Some b → HaveSame a b → i ≡ j

  -- one more list, and another order
  pub differ_cons : (l : List X) (ls : List (List X)) → Differ ls → ((k : List X) → Contains ls k → HaveSame k l → ⊥) → Differ (l ∷ ls)
  differ_cons l ls differ none zero zero a b h k same = refl
  differ_cons l ls differ none zero (suc j) a b h k same = absurd (none b (index_given ls j b k) (subst (HaveSame b) (sym (some_is l a h)) (same_sym a b same)))
  differ_cons l ls differ none (suc i) zero a b h k same = absurd (none a (index_given ls i a h) (subst (HaveSame a) (sym (some_is l b k)) same))
  differ_cons l ls differ none (suc i) (suc j) a b h k same = ap suc (differ i j a b h k same)

  pub differ_order : (xs ys : List (List X)) → IsPermutation xs ys → Differ xs → Differ ys
  differ_order xs ys order differ i j a b h k same =
      let u = index_found xs a (Contains-permutation ys xs a (IsPermutation-sym xs ys order) (index_given ys i a h)) in
      let v = index_found xs b (Contains-permutation ys xs b (IsPermutation-sym xs ys order) (index_given ys j b k)) in
      let at : u.0 ≡ v.0 = differ u.0 v.0 a b u.1 v.1 same in
      let equal : a ≡ b = some_is a b (sym u.1 ∙ ap (slice_get xs) at ∙ v.1) in
      no_repeat_order xs ys order (λ m n c p q. differ m n c c p q (λ x. (λ o. o, λ o. o))) i j b (h ∙ ap (λ o. Some o) equal) k

  all_apart : (ls : List (List X)) → Differ ls → ((l : List X) → Contains ls l → HasNoRepeat l) → Apart (all_ordered ls)
  all_apart [] differ each = tt
  all_apart (l ∷ ls) differ each = apart_append (ordered l) (all_ordered ls) (ordered_apart l (each l (Contains-first l ls l refl)))
      (all_apart ls (λ i j a b h k same. let e = differ (suc i) (suc j) a b h k same in omega (arith, e)) (λ k c. each k (in_rest l ls k c))) never
    where
      never : (p : X × X) → Contains (ordered l) p → Contains (all_ordered ls) p → ⊥
      never p c d =
          let k = found_ordered ls p d in
          let i = index_found ls k.0 k.1.0 in
          let same = same_trans l (of_pair p) k.0 (of_ordered l p c) (same_sym k.0 (of_pair p) (of_ordered k.0 p k.1.1)) in
          let z = differ 0 (suc i.0) l k.0 refl i.1 same in
          omega (arith, z)

  in_all : (ls : List (List X)) (all : List X) → ((l : List X) → Contains ls l → (x : X) → Contains l x → Contains all x) → (p : X × X) → Contains (all_ordered ls) p → Contains (pairs_of all all) p
  in_all ls all within p c =
      let k = found_ordered ls p c in
      let same = of_ordered k.0 p k.1.1 in
      in_pairs all all p.0 p.1 (within k.0 k.1.0 p.0 ((same p.0).1 (Contains-first p.0 (p.1 ∷ []) p.0 refl))) (within k.0 k.1.0 p.1 ((same p.1).1 (in_rest p.0 (p.1 ∷ []) p.1 (Contains-first p.1 [] p.1 refl))))

  in_parts : (ls : List (List X)) → sum (map length ls) ≡ length (all_ordered ls) + sum (map length_above_two ls)
  in_parts [] = omega arith
  in_parts (l ∷ ls) =
      let whole : sum (map length (l ∷ ls)) ≡ length l + sum (map length ls) = sum_by-cons (λ n. n) (length l) (map length ls) in
      let longer : sum (map length_above_two (l ∷ ls)) ≡ length_above_two l + sum (map length_above_two ls) = sum_by-cons (λ n. n) (length_above_two l) (map length_above_two ls) in
      omega (arith, whole, longer, length_ordered l, in_parts ls, length-append (ordered l) (all_ordered ls))

  -- lists of some things, of which no two have the same members, are in all at most as long as these times these, and as those of more
  -- than two
  pub few : (ls : List (List X)) (all : List X) → Differ ls → ((l : List X) → Contains ls l → HasNoRepeat l) → ((l : List X) → Contains ls l → (x : X) → Contains l x → Contains all x)
      → sum (map length ls) ≤ length all * length all + sum (map length_above_two ls)
  few ls all differ each within =
      omega (arith, as_long (all_ordered ls) (pairs_of all all) (all_apart ls differ each) (in_all ls all within), length_pairs all all, in_parts ls)

  -- another order is as long
  pub above_two_length : (xs ys : List X) → length xs ≡ length ys → length_above_two xs ≡ length_above_two ys
  above_two_length [] [] e = refl
  above_two_length [] (a ∷ ys) e = absurd (omega (arith, e))
  above_two_length (x ∷ xs) [] e = absurd (omega (arith, e))
  above_two_length (x ∷ []) (a ∷ []) e = refl
  above_two_length (x ∷ []) (a ∷ b ∷ ys) e = absurd (omega (arith, e))
  above_two_length (x ∷ y ∷ xs) (a ∷ []) e = absurd (omega (arith, e))
  above_two_length (x ∷ y ∷ []) (a ∷ b ∷ []) e = refl
  above_two_length (x ∷ y ∷ []) (a ∷ b ∷ c ∷ ys) e = absurd (omega (arith, e))
  above_two_length (x ∷ y ∷ z ∷ xs) (a ∷ b ∷ []) e = absurd (omega (arith, e))
  above_two_length (x ∷ y ∷ z ∷ xs) (a ∷ b ∷ c ∷ ys) e = e

  pub above_two_le : (xs : List X) → length_above_two xs ≤ length xs
  above_two_le [] = omega arith
  above_two_le (x ∷ []) = omega arith
  above_two_le (x ∷ y ∷ []) = omega arith
  above_two_le (x ∷ y ∷ z ∷ rest) = omega arith
