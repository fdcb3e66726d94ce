-- Rows of pairs: where a row comes to them, and where a number comes to a row.
use Rattle.std.proofs.Common.{◌≡◌, ◌≢◌, ◌⊎◌, ◌∙◌, ℕ, zero, suc, ◌+◌, ◌*◌, ◌/◌, ◌%◌, ◌<◌, ◌≤◌, ◌==◌, min, max, Bool, true, false, not, cond, List, [], ◌∷◌, ◌++◌, map, length, get_or, set, Contains, Result, Ok, Err, IfOk, OnErr, refl, sym, ap, ap₂, subst, append-nil, length-append, arith, inl, inr, true≢false, le_refl}
use Rattle.std.specs.Int.{bit_at}
use Rattle.std.specs.List.{filter, range_with_len}
use Rattle.std.specs.List.Sorted.{IsPermutation}
use Rattle.std.proofs.lemmas.Bool.{cases_eq}
use Rattle.std.proofs.lemmas.List.{length-map}
use Rattle.std.proofs.lemmas.List.Elements.{filter_agree, Contains-append_left, Contains-append_right, Contains-append_cases}
use Rattle.std.proofs.lemmas.List.FromFn.{length-range_with_len, get_or-range_with_len}
use Rattle.std.proofs.lemmas.List.Sorted.{IsPermutation-refl, IsPermutation-sym, IsPermutation-trans, IsPermutation-cons, IsPermutation-map, IsPermutation-middle, IsPermutation-append_left, IsPermutation-append_right, Contains-permutation}
use Rattle.rule_cycle_search.specs.Paths.{HasNoRepeat}
use Rattle.rule_cycle_search.proofs.Lists.{not_in_nil, Contains-cons, Contains-first}
use Rattle.list_interner.specs.declared.bits.Bits.{Bits}
use Rattle.list_interner.specs.declared.pairs.NumberPairs.{NumberPairs}
use Rattle.list_interner.specs.Bits.{has, HaveSameBits, Sets}
use Rattle.list_interner.specs.NumberPairs.{pairs_of_row, pairs_from, pairs_kept, KeepsPair, AreFew}
use Rattle.list_interner.proofs.Standing.{in_map, of_map}
use Rattle.list_interner.proofs.Few.{in_rest, Apart, from_apart, apart_append, no_longer, pairs_of, length_pairs, in_pairs}

-- ---- the same bits

pub same_has : (old new : Bits) → HaveSameBits old new → (n : ℕ) → has new n ≡ has old n
same_has old new same n = ap (λ w. bit_at w (n % 64) == 1) (same (n / 64))

pub same_trans_bits : (a b c : Bits) → HaveSameBits a b → HaveSameBits b c → HaveSameBits a c
same_trans_bits a b c p q k = q k ∙ p k

pub sets_after : (old mid new : Bits) (number : ℕ) (is_new : Bool) → HaveSameBits old mid → Sets mid number is_new new → Sets old number is_new new
sets_after old mid new number is_new same (says, (is_in, others)) = (says ∙ ap not (same_has old mid same number), (is_in, λ n d. others n d ∙ same_has old mid same n))

-- ---- the numbers that a test keeps

pub of_filter : {X : Type 0} (p : X → Bool) (xs : List X) (x : X) → Contains (filter p xs) x → (p x ≡ true) × Contains xs x
of_filter p [] x c = not_in_nil x c
of_filter {X} p (y ∷ ys) x c = by (p y) refl c (of_filter p ys x)
  where
    by : (b : Bool) → p y ≡ b → Contains (cond b (y ∷ filter p ys) (filter p ys)) x → (Contains (filter p ys) x → (p x ≡ true) × Contains ys x) → (p x ≡ true) × Contains (y ∷ ys) x
    by true e c rest = elim (Contains-cons y (filter p ys) x c) [
      | inl same ↦ (ap p (sym same) ∙ e, Contains-first y ys x same)
      | inr r ↦ let k = rest r in (k.0, in_rest y ys x k.1)
    ]
    by false e c rest = let k = rest c in (k.0, in_rest y ys x k.1)

pub in_filter : {X : Type 0} (p : X → Bool) (xs : List X) (x : X) → p x ≡ true → Contains xs x → Contains (filter p xs) x
in_filter p [] x e c = not_in_nil x c
in_filter {X} p (y ∷ ys) x e c = by (p y) refl (Contains-cons y ys x c) (in_filter p ys x e)
  where
    by : (b : Bool) → p y ≡ b → (y ≡ x) ⊎ Contains ys x → (Contains ys x → Contains (filter p ys) x) → Contains (cond b (y ∷ filter p ys) (filter p ys)) x
    by true i (inl same) rest = Contains-first y (filter p ys) x same
    by true i (inr r) rest = in_rest y (filter p ys) x (rest r)
    by false i (inl same) rest = absurd (true≢false (sym e ∙ ap p (sym same) ∙ i))
    by false i (inr r) rest = rest r

none_kept : {X : Type 0} (p : X → Bool) (xs : List X) → ((x : X) → p x ≡ false) → filter p xs ≡ []
none_kept p [] none = refl
none_kept p (x ∷ xs) none = ap (λ b. cond b (x ∷ filter p xs) (filter p xs)) (none x) ∙ none_kept p xs none

pub of_range : (a n k : ℕ) → Contains (range_with_len a n) k → (a ≤ k) × (k < a + n)
of_range a n k (i, low, e) =
    let within : i < n = omega (arith, low, length-range_with_len a n) in
    let is = get_or-range_with_len a n i k within in
    (omega (arith, is, e), omega (arith, is, e, within))

pub in_range : (a n k : ℕ) → a ≤ k → k < a + n → Contains (range_with_len a n) k
in_range a zero k le lt = absurd (omega (arith, le, lt))
in_range a (suc n) k le lt = elim (cases_eq a k) [
  | inl e ↦ Contains-first a (range_with_len (a + 1) n) k e
  | inr ne ↦ in_rest a (range_with_len (a + 1) n) k (in_range (a + 1) n k (omega (arith, le, ne)) (omega (arith, lt)))
]

-- the same from a number on
same_from : (p q : ℕ → Bool) (a n : ℕ) → ((k : ℕ) → a ≤ k → q k ≡ p k) → filter p (range_with_len a n) ≡ filter q (range_with_len a n)
same_from p q a zero same = refl
same_from p q a (suc n) same = ap₂ (λ b l. cond b (a ∷ l) l) (sym (same a (le_refl a))) (same_from p q (a + 1) n (λ k le. same k (omega (arith, le))))

new_first : (a low : ℕ) (b c : Bool) (us vs : List ℕ) → a ≡ low → b ≡ false → c ≡ true → us ≡ vs → IsPermutation (low ∷ cond b (a ∷ us) us) (cond c (a ∷ vs) vs)
new_first a low true c us vs e is_out is_in is = absurd (true≢false is_out)
new_first a low false true us vs e is_out is_in is = subst (IsPermutation (low ∷ us)) (ap₂ (λ x l. x ∷ l) (sym e) is) (IsPermutation-refl (low ∷ us))
new_first a low false false us vs e is_out is_in is = absurd (true≢false (sym is_in))

pub exchanged_two : {X : Type 0} (x y : X) (us : List X) → IsPermutation (x ∷ y ∷ us) (y ∷ x ∷ us)
exchanged_two x y us = IsPermutation-middle (x ∷ []) y us

new_later : (a low : ℕ) (b c : Bool) (us vs : List ℕ) → c ≡ b → IsPermutation (low ∷ us) vs → IsPermutation (low ∷ cond b (a ∷ us) us) (cond c (a ∷ vs) vs)
new_later a low true true us vs e p = IsPermutation-trans (low ∷ a ∷ us) (a ∷ low ∷ us) (a ∷ vs) (exchanged_two low a us) (IsPermutation-cons a (low ∷ us) vs p)
new_later a low true false us vs e p = absurd (true≢false (sym e))
new_later a low false true us vs e p = absurd (true≢false e)
new_later a low false false us vs e p = p

-- one more passes the test
pub one_more : (p q : ℕ → Bool) (low a n : ℕ) → a ≤ low → low < a + n → p low ≡ false → q low ≡ true → ((k : ℕ) → k ≢ low → q k ≡ p k)
    → IsPermutation (low ∷ filter p (range_with_len a n)) (filter q (range_with_len a n))
one_more p q low a zero le lt is_out is_in same = absurd (omega (arith, le, lt))
one_more p q low a (suc n) le lt is_out is_in same = elim (cases_eq a low) [
  | inl e ↦ new_first a low (p a) (q a) (filter p (range_with_len (a + 1) n)) (filter q (range_with_len (a + 1) n)) e (ap p e ∙ is_out) (ap q e ∙ is_in)
      (same_from p q (a + 1) n (λ k le. same k (λ s. let never : ⊥ = omega (arith, le, s, e) in never)))
  | inr ne ↦ new_later a low (p a) (q a) (filter p (range_with_len (a + 1) n)) (filter q (range_with_len (a + 1) n)) (same a ne)
      (one_more p q low (a + 1) n (omega (arith, le, ne)) (omega (arith, lt)) is_out is_in same)
]

-- ---- one row

-- a pair
abbrev pub with_first : ℕ → ℕ → ℕ × ℕ
with_first high low = (high, low)

row_stays : (high : ℕ) (old new : Bits) → ((n : ℕ) → has new n ≡ has old n) → pairs_of_row high new ≡ pairs_of_row high old
row_stays high old new same = ap (map (with_first high)) (filter_agree (has new) (has old) same (range_with_len 0 (high + 1)))

none_in_row : (high : ℕ) (row : Bits) → ((n : ℕ) → has row n ≡ false) → pairs_of_row high row ≡ []
none_in_row high row none = ap (map (with_first high)) (none_kept (has row) (range_with_len 0 (high + 1)) none)

row_more : (high low : ℕ) (old new : Bits) → low ≤ high → has old low ≡ false → has new low ≡ true → ((n : ℕ) → n ≢ low → has new n ≡ has old n)
    → IsPermutation (with_first high low ∷ pairs_of_row high old) (pairs_of_row high new)
row_more high low old new le is_out is_in same =
    IsPermutation-map (with_first high) (low ∷ filter (has old) (range_with_len 0 (high + 1))) (filter (has new) (range_with_len 0 (high + 1)))
    (one_more (has old) (has new) low 0 (high + 1) (omega arith) (omega (arith, le)) is_out is_in same)

of_row : (high : ℕ) (row : Bits) (p : ℕ × ℕ) → Contains (pairs_of_row high row) p → (p.0 ≡ high) × ((p.1 ≤ high) × (has row p.1 ≡ true))
of_row high row p c =
    let l = of_map (with_first high) (filter (has row) (range_with_len 0 (high + 1))) p c in
    let k = of_filter (has row) (range_with_len 0 (high + 1)) l.0 l.1.0 in
    let r = of_range 0 (high + 1) l.0 k.1 in
    let first : high ≡ p.0 = ap (λ (q : ℕ × ℕ). q.0) l.1.1 in
    let second : l.0 ≡ p.1 = ap (λ (q : ℕ × ℕ). q.1) l.1.1 in
    (sym first, (omega (arith, second, r.1), ap (has row) (sym second) ∙ k.0))

in_row : (high : ℕ) (row : Bits) (low : ℕ) → low ≤ high → has row low ≡ true → Contains (pairs_of_row high row) (with_first high low)
in_row high row low le is_in =
    in_map (with_first high) (filter (has row) (range_with_len 0 (high + 1))) low
    (in_filter (has row) (range_with_len 0 (high + 1)) low is_in (in_range 0 (high + 1) low (omega arith) (omega (arith, le))))

pub row_apart : (high : ℕ) (p : ℕ → Bool) (a n : ℕ) → Apart (map (with_first high) (filter p (range_with_len a n)))
row_apart high p a zero = tt
row_apart high p a (suc n) = by (p a) (row_apart high p (a + 1) n)
  where
    by : (b : Bool) → Apart (map (with_first high) (filter p (range_with_len (a + 1) n)))
        → Apart (map (with_first high) (cond b (a ∷ filter p (range_with_len (a + 1) n)) (filter p (range_with_len (a + 1) n))))
    by true rest = (
      λ c.
          let l = of_map (with_first high) (filter p (range_with_len (a + 1) n)) (with_first high a) c in
          let r = of_range (a + 1) n l.0 (of_filter p (range_with_len (a + 1) n) l.0 l.1.0).1 in
          let same : l.0 ≡ a = ap (λ (q : ℕ × ℕ). q.1) l.1.1 in
          absurd (omega (arith, r.0, same)),
      rest,
    )
    by false rest = rest

-- ---- all rows

-- a row without numbers comes last
pub rows_push : (high : ℕ) (rows : List Bits) (row : Bits) → ((n : ℕ) → has row n ≡ false) → pairs_from high (rows ++ row ∷ []) ≡ pairs_from high rows
rows_push high [] row none = append-nil (pairs_of_row high row) ∙ none_in_row high row none
rows_push high (r ∷ rows) row none = ap (λ l. pairs_of_row high r ++ l) (rows_push (high + 1) rows row none)

-- a row is as it was
pub rows_stay : (from : ℕ) (rows : List Bits) (i high : ℕ) (old new : Bits) → from + i ≡ high → i < length rows → get_or rows i old ≡ old → ((n : ℕ) → has new n ≡ has old n)
    → pairs_from from (set rows i new) ≡ pairs_from from rows
rows_stay from [] i high old new at lt is same = absurd (omega (arith, lt))
rows_stay from (r ∷ rows) zero high old new at lt is same = ap (λ l. l ++ pairs_from (from + 1) rows) (row_stays from old new same ∙ ap (pairs_of_row from) (sym is))
rows_stay from (r ∷ rows) (suc i) high old new at lt is same =
    ap (λ l. pairs_of_row from r ++ l) (rows_stay (from + 1) rows i high old new (omega (arith, at)) (omega (arith, lt)) is same)

-- a number comes to a row
pub rows_more : (from : ℕ) (rows : List Bits) (i high low : ℕ) (old new : Bits) → from + i ≡ high → i < length rows → get_or rows i old ≡ old
    → low ≤ high → has old low ≡ false → has new low ≡ true → ((n : ℕ) → n ≢ low → has new n ≡ has old n) → IsPermutation (with_first high low ∷ pairs_from from rows) (pairs_from from (set rows i new))
rows_more from [] i high low old new at lt is le is_out is_in same = absurd (omega (arith, lt))
rows_more from (r ∷ rows) zero high low old new at lt is le is_out is_in same =
    let here : from ≡ high = omega (arith, at) in
    let moved : IsPermutation (with_first high low ∷ pairs_of_row from r) (pairs_of_row from new) =
    subst (λ h. IsPermutation (with_first high low ∷ pairs_of_row h r) (pairs_of_row h new)) (sym here)
    (subst (λ o. IsPermutation (with_first high low ∷ pairs_of_row high o) (pairs_of_row high new)) (sym is) (row_more high low old new le is_out is_in same)) in
    IsPermutation-append_left (pairs_from (from + 1) rows) (with_first high low ∷ pairs_of_row from r) (pairs_of_row from new) moved
rows_more from (r ∷ rows) (suc i) high low old new at lt is le is_out is_in same =
    let before = pairs_of_row from r in
    let following = pairs_from (from + 1) rows in
    let rest = rows_more (from + 1) rows i high low old new (omega (arith, at)) (omega (arith, lt)) is le is_out is_in same in
    IsPermutation-trans (with_first high low ∷ (before ++ following)) (before ++ with_first high low ∷ following) (before ++ pairs_from (from + 1) (set rows i new))
    (IsPermutation-sym (before ++ with_first high low ∷ following) (with_first high low ∷ (before ++ following)) (IsPermutation-middle before (with_first high low) following))
    (IsPermutation-append_right before (with_first high low ∷ following) (pairs_from (from + 1) (set rows i new)) rest)

-- a pair is in the row of its greater number
pub of_rows : (from : ℕ) (rows : List Bits) (d : Bits) (p : ℕ × ℕ) → Contains (pairs_from from rows) p
    → (i : ℕ) × ((from + i ≡ p.0) × ((i < length rows) × ((p.1 ≤ p.0) × (has (get_or rows i d) p.1 ≡ true))))
of_rows from [] d p c = not_in_nil p c
of_rows from (r ∷ rows) d p c = elim (Contains-append_cases (pairs_of_row from r) (pairs_from (from + 1) rows) p c) [
  | inl a ↦ let k = of_row from r p a in (0, (omega (arith, k.0), (omega arith, (omega (arith, k.0, k.1.0), k.1.1))))
  | inr b ↦ let k = of_rows (from + 1) rows d p b in (suc k.0, (omega (arith, k.1.0), (omega (arith, k.1.1.0), k.1.1.1)))
]

pub in_rows : (from : ℕ) (rows : List Bits) (d : Bits) (i high low : ℕ) → from + i ≡ high → i < length rows → low ≤ high → has (get_or rows i d) low ≡ true → Contains (pairs_from from rows) (with_first high low)
in_rows from [] d i high low at lt le is_in = absurd (omega (arith, lt))
in_rows from (r ∷ rows) d zero high low at lt le is_in =
    let here : from ≡ high = omega (arith, at) in
    Contains-append_left (pairs_of_row from r) (pairs_from (from + 1) rows) (with_first high low) (subst (λ h. Contains (pairs_of_row h r) (with_first high low)) (sym here) (in_row high r low le is_in))
in_rows from (r ∷ rows) d (suc i) high low at lt le is_in =
    Contains-append_right (pairs_of_row from r) (pairs_from (from + 1) rows) (with_first high low) (in_rows (from + 1) rows d i high low (omega (arith, at)) (omega (arith, lt)) le is_in)

rows_apart : (from : ℕ) (rows : List Bits) → Apart (pairs_from from rows)
rows_apart from [] = tt
rows_apart from (r ∷ rows) = apart_append (pairs_of_row from r) (pairs_from (from + 1) rows) (row_apart from (has r) 0 (from + 1)) (rows_apart (from + 1) rows)
    (λ p c d. let a = of_row from r p c in let b = of_rows (from + 1) rows r p d in absurd (omega (arith, a.0, b.1.0)))

-- ---- pairs that are kept

-- each is there once, with its greater number first
pub kept_once : (p : NumberPairs) → HasNoRepeat (pairs_kept p)
kept_once p = from_apart (pairs_kept p) (rows_apart 0 p.rows.items)

rows_ordered : (rows : List Bits) (q : ℕ × ℕ) → Contains (pairs_from 0 rows) q → q.1 ≤ q.0
rows_ordered [] q c = not_in_nil q c
rows_ordered (r ∷ rows) q c = let k = of_rows 0 (r ∷ rows) r q c in k.1.1.1.0

-- both of a pair are below the number of rows
pub rows_below : (rows : List Bits) (n : ℕ) → n ≡ length rows → (q : ℕ × ℕ) → Contains (pairs_from 0 rows) q → (q.0 < n) × (q.1 < n)
rows_below [] n e q c = not_in_nil q c
rows_below (r ∷ rows) n e q c = let k = of_rows 0 (r ∷ rows) r q c in (omega (arith, e, k.1.0, k.1.1.0), omega (arith, e, k.1.0, k.1.1.0, k.1.1.1.0))

pub kept_ordered : (p : NumberPairs) (q : ℕ × ℕ) → Contains (pairs_kept p) q → q.1 ≤ q.0
kept_ordered p = rows_ordered p.rows.items

-- a number is put in a row
pub keeps_pair : (rows : List Bits) (high low : ℕ) (old new : Bits) (is_new : Bool) → high < length rows → get_or rows high old ≡ old → low ≤ high → Sets old low is_new new
    → KeepsPair (pairs_from 0 rows) (with_first high low) is_new (pairs_from 0 (set rows high new))
keeps_pair rows high low old new is_new lt is le (says, (is_in, same)) = by (has old low) refl is_new says
  where
    by : (b : Bool) → has old low ≡ b → (r : Bool) → r ≡ not b → KeepsPair (pairs_from 0 rows) (with_first high low) r (pairs_from 0 (set rows high new))
    by true e true f = absurd (true≢false f)
    by true e false f = (
      in_rows 0 rows old high high low (omega arith) lt le (ap (λ r. has r low) is ∙ e),
      rows_stay 0 rows high high old new (omega arith) lt is (λ n. elim (cases_eq n low) [ inl s ↦ ap (has new) s ∙ is_in ∙ sym e ∙ ap (has old) (sym s) | inr d ↦ same n d ]),
    )
    by false e true f = (
      λ c.
          let k = of_rows 0 rows old (with_first high low) c in
          let here : k.0 ≡ high = omega (arith, k.1.0) in
          true≢false (sym k.1.1.1.1 ∙ ap (λ i. has (get_or rows i old) low) here ∙ ap (λ r. has r low) is ∙ e),
      rows_more 0 rows high high low old new (omega arith) lt is le e is_in same,
    )
    by false e false f = absurd (true≢false (sym f))

-- whatever comes of it
module _ {E : Type 0} (r : Result Bool E) (was : List (ℕ × ℕ)) (rows : List Bits) (one other high low : ℕ) (old new : Bits) (same : pairs_from 0 rows ≡ was) (lt : high < length rows) (is : get_or rows high old ≡ old) (is_high : high ≡ max one other) (is_low : low ≡ min one other) where
  le : low ≤ high
  le = omega (arith, is_high, is_low)

  pair : with_first high low ≡ with_first (max one other) (min one other)
  pair = ap₂ with_first is_high is_low

  keeps_so : (is_new : Bool) → Sets old low is_new new → KeepsPair was (with_first (max one other) (min one other)) is_new (pairs_from 0 (set rows high new))
  keeps_so is_new sets = subst (λ l. KeepsPair l (with_first (max one other) (min one other)) is_new (pairs_from 0 (set rows high new))) same
      (subst (λ p. KeepsPair (pairs_from 0 rows) p is_new (pairs_from 0 (set rows high new))) pair (keeps_pair rows high low old new is_new lt is le sets))

  pub pair_kept : IfOk r (λ is_new. Sets old low is_new new) → IfOk r (λ is_new. KeepsPair was (with_first (max one other) (min one other)) is_new (pairs_from 0 (set rows high new)))
  pair_kept = by r
    where
      by : (a : Result Bool E) → IfOk a (λ is_new. Sets old low is_new new) → IfOk a (λ is_new. KeepsPair was (with_first (max one other) (min one other)) is_new (pairs_from 0 (set rows high new)))
      by (Ok is_new) sets = keeps_so is_new sets
      by (Err e) h = h

  pub pair_refused : OnErr r (HaveSameBits old new) → OnErr r (pairs_from 0 (set rows high new) ≡ was)
  pair_refused = by r
    where
      by : (a : Result Bool E) → OnErr a (HaveSameBits old new) → OnErr a (pairs_from 0 (set rows high new) ≡ was)
      by (Ok is_new) h = h
      by (Err e) h = rows_stay 0 rows high high old new (omega arith) lt is (same_has old new h) ∙ same

-- ---- after a call

module _ (old new : List (ℕ × ℕ)) (pair : ℕ × ℕ) where
  -- what was kept is kept
  pub still_paired : (is_new : Bool) → KeepsPair old pair is_new new → (p : ℕ × ℕ) → Contains old p → Contains new p
  still_paired true (none, order) p c = Contains-permutation (pair ∷ old) new p order (in_rest pair old p c)
  still_paired false (there, is) p c = subst (λ ps. Contains ps p) (sym is) c

  -- the pair is kept, whether it is new or not
  pub is_paired : (is_new : Bool) → KeepsPair old pair is_new new → Contains new pair
  is_paired true (none, order) = Contains-permutation (pair ∷ old) new pair order (Contains-first pair old pair refl)
  is_paired false (there, is) = subst (λ ps. Contains ps pair) (sym is) there

  -- and nothing else
  pub was_paired : (is_new : Bool) → KeepsPair old pair is_new new → (p : ℕ × ℕ) → Contains new p → Contains old p ⊎ (pair ≡ p)
  was_paired true (none, order) p c = elim (Contains-cons pair old p (Contains-permutation new (pair ∷ old) p (IsPermutation-sym (pair ∷ old) new order) c)) [
    | inl e ↦ inr e
    | inr r ↦ inl r
  ]
  was_paired false (there, is) p c = inl (subst (λ ps. Contains ps p) is c)

-- ---- how many there can be

pairs_below : ℕ → List (ℕ × ℕ)
pairs_below zero = []
pairs_below (suc m) = map (with_first m) (range_with_len 0 (m + 1)) ++ pairs_below m

length_below : (m : ℕ) → 2 * length (pairs_below m) ≡ m * (m + 1)
unfolding pairs_below
length_below zero = refl
length_below (suc m) =
    let one : List (ℕ × ℕ) = map (with_first m) (range_with_len 0 (m + 1)) in
    omega (arith, length-append one (pairs_below m), length-map {B = ℕ × ℕ} (range_with_len 0 (m + 1)) (with_first m), length-range_with_len 0 (m + 1), length_below m)

in_below : (m : ℕ) (p : ℕ × ℕ) → p.1 ≤ p.0 → p.0 < m → Contains (pairs_below m) p
unfolding pairs_below
in_below zero p le lt = absurd (omega (arith, lt))
in_below (suc m) p le lt = elim (cases_eq p.0 m) [
  | inl e ↦ Contains-append_left (map (with_first m) (range_with_len 0 (m + 1))) (pairs_below m) p
      (subst (λ k. Contains {X = ℕ × ℕ} (map (with_first m) (range_with_len 0 (m + 1))) (k, p.1)) (sym e)
      (in_map {Y = ℕ × ℕ} (with_first m) (range_with_len 0 (m + 1)) p.1 (in_range 0 (m + 1) p.1 (omega arith) (omega (arith, le, e)))))
  | inr ne ↦ Contains-append_right (map (with_first m) (range_with_len 0 (m + 1))) (pairs_below m) p (in_below m p le (omega (arith, lt, ne)))
]

-- different pairs of numbers below a number, each with the greater one first
pub few_pairs : (pairs : List (ℕ × ℕ)) → HasNoRepeat pairs → ((p : ℕ × ℕ) → Contains pairs p → p.1 ≤ p.0) → AreFew pairs
few_pairs pairs once ordered = λ m below. omega (arith, no_longer pairs (pairs_below m) once (λ p c. in_below m p (ordered p c) (below p c).0), length_below m)

-- and whichever of its two numbers is first
pub few_in_any_order : (pairs : List (ℕ × ℕ)) (m : ℕ) → HasNoRepeat pairs → ((p : ℕ × ℕ) → Contains pairs p → (p.0 < m) × (p.1 < m)) → length pairs ≤ m * m
few_in_any_order pairs m once below =
    let all = range_with_len 0 m in
    let n = length-range_with_len 0 m in
    let square : length all * length all ≡ m * m = ap (λ k. k * k) n in
    omega (arith, no_longer pairs (pairs_of all all) once (λ p c. in_pairs all all p.0 p.1 (in_range 0 m p.0 (omega arith) (omega (arith, (below p c).0))) (in_range 0 m p.1 (omega arith) (omega (arith, (below p c).1)))), length_pairs all all, square)

-- those that are kept
pub rows_few : (rows : List Bits) → AreFew (pairs_from 0 rows)
rows_few rows = few_pairs (pairs_from 0 rows) (from_apart (pairs_from 0 rows) (rows_apart 0 rows)) (rows_ordered rows)

pub kept_few : (p : NumberPairs) → AreFew (pairs_kept p)
kept_few p = rows_few p.rows.items
