-- Lists of numbers in ascending order: with the same members, and nothing twice, they are the same.
use Rattle.std.proofs.Common.{◌≡◌, ◌∙◌, ℕ, suc, ◌<◌, ◌≤◌, Bool, true, false, ◌&&◌, ◌||◌, not, List, [], ◌∷◌, ◌++◌, map, get_or, Some, Vec, Result, Ok, Err, Contains, nat_eq, refl, sym, ap, subst, arith, inl, inr, true≢false, if◌then◌else◌}
use Rattle.std.specs.Global.{Global}
use Rattle.std.specs.List.{list_any}
use Rattle.std.specs.List.Sorted.{IsPermutation, IsNonDecreasing}
use Rattle.std.specs.Result.{IfOk, OnErr}
use Rattle.std.specs.Cmp.Lexicographic.{pointwise}
use Rattle.std.proofs.lemmas.Bool.Decides.{Decides-eqb}
use Rattle.std.proofs.lemmas.List.{map-append}
use Rattle.std.proofs.lemmas.List.Elements.{Contains-push_cases}
use Rattle.indexmap.specs.IndexSet.{insert_key}
use Rattle.rule_cycle_search.specs.Paths.{HasNoRepeat}
use Rattle.rule_cycle_search.proofs.Lists.{not_in_nil, Contains-cons, Contains-first, index_found, index_given}
use Rattle.list_interner.specs.NumberLists.{HaveSame}
use Rattle.list_interner.proofs.Standing.{in_map, of_map, same_order, same_trans, no_repeat_order}

-- each is less than all after it
abbrev Rising : List ℕ → Type 0
Rising [] = Unit {0}
Rising (x ∷ xs) = ((y : ℕ) → Contains xs y → x < y) × Rising xs

in_rest : (x : ℕ) (xs : List ℕ) (y : ℕ) → Contains xs y → Contains (x ∷ xs) y
in_rest x xs y c = let i = index_found xs y c in index_given (x ∷ xs) (suc i.0) y i.1

rising : (xs : List ℕ) → IsNonDecreasing xs → HasNoRepeat xs → Rising xs
rising [] up apart = tt
rising (x ∷ xs) up apart = (below, rising xs (λ i j d le low. up (suc i) (suc j) d (omega (arith, le)) (omega (arith, low))) (λ i j y h k. let e = apart (suc i) (suc j) y h k in omega (arith, e)))
  where
    below : (y : ℕ) → Contains xs y → x < y
    below y (k, low, e) =
        let le : x ≤ get_or xs k y = up 0 (suc k) y (omega arith) (omega (arith, low)) in
        let i = index_found xs y (k, low, e) in
        let differ : x ≡ y → ⊥ = λ same. let z = apart 0 (suc i.0) y (ap (λ a. Some a) same) i.1 in omega (arith, z) in
        omega (arith, le, e, differ)

same_rising : (xs ys : List ℕ) → Rising xs → Rising ys → HaveSame xs ys → xs ≡ ys
same_rising [] [] p q same = refl
same_rising [] (y ∷ ys) p q same = not_in_nil y ((same y).1 (Contains-first y ys y refl))
same_rising (x ∷ xs) [] p q same = not_in_nil x ((same x).0 (Contains-first x xs x refl))
same_rising (x ∷ xs) (y ∷ ys) p q same = λ i. first i ∷ same_rising xs ys p.1 q.1 rest i
  where
    first : x ≡ y
    first = elim (Contains-cons y ys x ((same x).0 (Contains-first x xs x refl))) [
      | inl e ↦ sym e
      | inr c ↦ elim (Contains-cons x xs y ((same y).1 (Contains-first y ys y refl))) [
        | inl e ↦ e
        | inr k ↦ absurd (omega (arith, p.0 y k, q.0 x c))
      ]
    ]

    rest : HaveSame xs ys
    rest z = (
      λ c. elim (Contains-cons y ys z ((same z).0 (in_rest x xs z c))) [
        | inl e ↦ absurd (omega (arith, p.0 z c, first, e))
        | inr k ↦ k
      ],
      λ c. elim (Contains-cons x xs z ((same z).1 (in_rest y ys z c))) [
        | inl e ↦ absurd (omega (arith, q.0 z c, first, e))
        | inr k ↦ k
      ],
    )

-- ---- lists of the program

abbrev pub items_of : Vec ℕ Global → List ℕ
items_of v = v.items

abbrev pub same_vec : Vec ℕ Global → Vec ℕ Global → Bool
same_vec a b = pointwise nat_eq a.items b.items

same_items : (xs ys : List ℕ) → pointwise nat_eq xs ys ≡ true → xs ≡ ys
same_items [] [] e = refl
same_items [] (y ∷ ys) e = absurd (true≢false (sym e))
same_items (x ∷ xs) [] e = absurd (true≢false (sym e))
same_items (x ∷ xs) (y ∷ ys) e = by (nat_eq x y) refl e (same_items xs ys)
  where
    by : (b : Bool) → nat_eq x y ≡ b → (b && pointwise nat_eq xs ys) ≡ true → (pointwise nat_eq xs ys ≡ true → xs ≡ ys) → x ∷ xs ≡ y ∷ ys
    by true i h rest = λ j. (Decides-eqb x y).0 i j ∷ rest h j
    by false i h rest = absurd (true≢false (sym h))

equal_items : (xs : List ℕ) → pointwise nat_eq xs xs ≡ true
equal_items [] = refl
equal_items (x ∷ xs) = ap (λ b. b && pointwise nat_eq xs xs) ((Decides-eqb x x).1 refl) ∙ equal_items xs

any_among : {X : Type 0} (test : X → Bool) (xs : List X) → list_any test xs ≡ true → (y : X) × (Contains xs y × (test y ≡ true))
any_among test [] e = absurd (true≢false (sym e))
any_among {X} test (x ∷ xs) e = by (test x) refl e (any_among test xs)
  where
    by : (b : Bool) → test x ≡ b → (b || list_any test xs) ≡ true → (list_any test xs ≡ true → (y : X) × (Contains xs y × (test y ≡ true))) → (y : X) × (Contains (x ∷ xs) y × (test y ≡ true))
    by true i h rest = (x, (Contains-first x xs x refl, i))
    by false i h rest =
        let r = rest h in
        let k = index_found xs r.0 r.1.0 in
        (r.0, (index_given (x ∷ xs) (suc k.0) r.0 k.1, r.1.1))

none_among : {X : Type 0} (test : X → Bool) (xs : List X) → list_any test xs ≡ false → (y : X) → Contains xs y → test y ≡ true → ⊥
none_among test [] e y c t = not_in_nil y c
none_among {X} test (x ∷ xs) e y c t = by (test x) refl e (none_among test xs)
  where
    by : (b : Bool) → test x ≡ b → (b || list_any test xs) ≡ false → (list_any test xs ≡ false → (z : X) → Contains xs z → test z ≡ true → ⊥) → ⊥
    by true i h rest = true≢false h
    by false i h rest = elim (Contains-cons x xs y c) [
      | inl s ↦ true≢false (sym t ∙ ap test (sym s) ∙ i)
      | inr r ↦ rest h y r t
    ]

module _ (old new : List (Vec ℕ Global)) (v : Vec ℕ Global) where
  more_so : (Q : Vec ℕ Global → Type 0) → ((w : Vec ℕ Global) → Contains old w → Q w) → Q v → new ≡ insert_key same_vec old v → (w : Vec ℕ Global) → Contains new w → Q w
  more_so Q all here is w c = by (list_any (same_vec v) old) refl
    where
      by : (b : Bool) → list_any (same_vec v) old ≡ b → Q w
      by true i = all w (subst (λ l. Contains l w) (is ∙ ap (λ b. if b then old else old ++ v ∷ []) i) c)
      by false i = elim (Contains-push_cases old v w (subst (λ l. Contains l w) (is ∙ ap (λ b. if b then old else old ++ v ∷ []) i) c)) [
        | inl a ↦ all w a
        | inr e ↦ subst Q e here
      ]

  -- what is so of all, and of the one that is inserted, is so after the insertion
  pub still_so : {E : Type 0} (Q : Vec ℕ Global → Type 0) (r : Result Bool E) → ((w : Vec ℕ Global) → Contains old w → Q w) → Q v
      → IfOk r (λ b. new ≡ insert_key same_vec old v) → OnErr r (new ≡ old) → (w : Vec ℕ Global) → Contains new w → Q w
  still_so Q (Ok b) all here is kept w c = more_so Q all here is w c
  still_so Q (Err e) all here is kept w c = all w (subst (λ l. Contains l w) kept c)

-- a new list is put last, and none before it has the same members, if neither has a repeat; one that is not new is there already, in
-- another order
abbrev pub IsPutLast : List (List ℕ) → List ℕ → List ℕ → Bool → List (List ℕ) → Type 0
IsPutLast old ns kept true new = ((list : List ℕ) → Contains old list → HasNoRepeat list → HasNoRepeat ns → HaveSame list ns → ⊥) × (new ≡ old ++ kept ∷ [])
IsPutLast old ns kept false new = ((list : List ℕ) × (Contains old list × IsPermutation ns list)) × (new ≡ old)

module _ (old new : List (Vec ℕ Global)) (v : Vec ℕ Global) (all : (w : Vec ℕ Global) → Contains old w → IsNonDecreasing w.items) (up : IsNonDecreasing v.items) (ns : List ℕ) (order : IsPermutation ns v.items) where
  pub put_last : (is_new : Bool) → is_new ≡ not (list_any (same_vec v) old) → new ≡ insert_key same_vec old v → IsPutLast (map items_of old) ns v.items is_new (map items_of new)
  put_last is_new e is = by (list_any (same_vec v) old) refl is_new e
    where
      by : (b : Bool) → list_any (same_vec v) old ≡ b → (r : Bool) → r ≡ not b → IsPutLast (map items_of old) ns v.items r (map items_of new)
      by true i true k = absurd (true≢false k)
      by true i false k =
          let y = any_among (same_vec v) old i in (
            (y.0.items, (in_map items_of old y.0 y.1.0, subst (IsPermutation ns) (same_items v.items y.0.items y.1.1) order)),
            ap (map items_of) (is ∙ ap (λ b. if b then old else old ++ v ∷ []) i),
          )
      by false i true k = (
        λ list c apart apart_too same.
            let y = of_map items_of old list c in
            let here = rising y.0.items (all y.0 y.1.0) (subst HasNoRepeat (sym y.1.1) apart) in
            let there = rising v.items up (no_repeat_order ns v.items order apart_too) in
            let equal : y.0.items ≡ v.items = same_rising y.0.items v.items here there (subst (λ l. HaveSame l v.items) (sym y.1.1) (same_trans list ns v.items same (same_order ns v.items order))) in
            none_among (same_vec v) old i y.0 y.1.0 (subst (λ l. pointwise nat_eq v.items l ≡ true) (sym equal) (equal_items v.items)),
        ap (map items_of) (is ∙ ap (λ b. if b then old else old ++ v ∷ []) i) ∙ map-append items_of old (v ∷ []),
      )
      by false i false k = absurd (true≢false (sym k))
