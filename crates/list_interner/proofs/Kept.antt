-- Lists that are kept: those of a pair, and longer ones.
use Rattle.std.proofs.Common.{◌≡◌, ◌⊎◌, ◌∙◌, ℕ, suc, ◌+◌, ◌<◌, ◌≤◌, min, max, Bool, true, false, cond, List, [], ◌∷◌, ◌++◌, map, length, get_or, take, Some, Vec, Result, Ok, Err, IfOk, OnErr, Contains, refl, sym, ap, ap₂, subst, append_assoc, arith, inl, inr, eq-eqb, ne_eqb}
use Rattle.std.specs.Global.{Global}
use Rattle.std.specs.List.Sorted.{IsPermutation}
use Rattle.std.proofs.lemmas.Bool.{cases_eq, cases_order}
use Rattle.std.proofs.Math.Seq.{take-suc}
use Rattle.std.proofs.lemmas.List.Elements.{Contains-push_cases, Contains-append_left, Contains-append_right, Contains-append_cases}
use Rattle.std.proofs.lemmas.List.Sorted.{IsPermutation-refl, IsPermutation-sym, IsPermutation-map, IsPermutation-to_front, IsPermutation-append_left, Contains-permutation}
use Rattle.rule_cycle_search.specs.Paths.{HasNoRepeat}
use Rattle.rule_cycle_search.proofs.Lists.{not_in_nil, Contains-cons, Contains-first}
use Rattle.list_interner.specs.NumberPairs.{KeepsPair}
use Rattle.list_interner.specs.NumberLists.{HaveSame, list_of, IsKeptFor, Keeps}
use Rattle.list_interner.proofs.Standing.{in_map, of_map, same_sym, same_trans, same_order}
use Rattle.list_interner.proofs.Few.{in_rest, no_longer, Differ, differ_cons, differ_order}
use Rattle.list_interner.proofs.Rising.{IsPutLast, items_of}
use Rattle.list_interner.proofs.Rows.{exchanged_two, with_first}

-- ---- the list of a pair

pub list_of-one : (a b : ℕ) → a ≡ b → list_of (a, b) ≡ a ∷ []
list_of-one a b e = ap (λ t. cond t (a ∷ []) (a ∷ b ∷ [])) (eq-eqb a b e)

pub list_of-two : (a b : ℕ) → (a ≡ b → ⊥) → list_of (a, b) ≡ a ∷ b ∷ []
list_of-two a b ne = ap (λ t. cond t (a ∷ []) (a ∷ b ∷ [])) (ne_eqb a b ne)

pub short : (a b : ℕ) → length (list_of (a, b)) ≤ 2
short a b = elim (cases_eq a b) [
  | inl e ↦ omega (arith, ap length (list_of-one a b e))
  | inr ne ↦ omega (arith, ap length (list_of-two a b ne))
]

pub not_empty : (a b : ℕ) → list_of (a, b) ≡ [] → ⊥
not_empty a b none = elim (cases_eq a b) [
  | inl e ↦ let never : ⊥ = omega (arith, ap length (sym (list_of-one a b e) ∙ none)) in never
  | inr ne ↦ let never : ⊥ = omega (arith, ap length (sym (list_of-two a b ne) ∙ none)) in never
]

-- its members are those of the pair
pub as_two : (a b : ℕ) → HaveSame (list_of (a, b)) (a ∷ b ∷ [])
as_two a b = elim (cases_eq a b) [
  | inl e ↦ subst (λ l. HaveSame l (a ∷ b ∷ [])) (sym (list_of-one a b e))
      (λ x. (
        λ c. elim (Contains-cons a [] x c) [ inl s ↦ Contains-first a (b ∷ []) x s | inr r ↦ not_in_nil x r ],
        λ c. elim (Contains-cons a (b ∷ []) x c) [
          | inl s ↦ Contains-first a [] x s
          | inr r ↦ elim (Contains-cons b [] x r) [ inl s ↦ Contains-first a [] x (e ∙ s) | inr n ↦ not_in_nil x n ]
        ],
      ))
  | inr ne ↦ subst (λ l. HaveSame l (a ∷ b ∷ [])) (sym (list_of-two a b ne)) (λ x. (λ c. c, λ c. c))
]

one_of : (a b x : ℕ) → Contains (a ∷ b ∷ []) x → (a ≡ x) ⊎ (b ≡ x)
one_of a b x c = elim (Contains-cons a (b ∷ []) x c) [
  | inl s ↦ inl s
  | inr r ↦ elim (Contains-cons b [] x r) [ inl s ↦ inr s | inr n ↦ not_in_nil x n ]
]

two_cases : (a b one other : ℕ) → b ≤ a → (one ≡ a) ⊎ (other ≡ a) → (one ≡ b) ⊎ (other ≡ b) → (a ≡ one) ⊎ (b ≡ one) → (a ≡ other) ⊎ (b ≡ other) → (a ≡ max one other) × (b ≡ min one other)
two_cases a b one other le (inl p) (inl q) (inl r) (inl s) = (omega (arith, le, p, q, r, s), omega (arith, le, p, q, r, s))
two_cases a b one other le (inl p) (inl q) (inl r) (inr s) = (omega (arith, le, p, q, r, s), omega (arith, le, p, q, r, s))
two_cases a b one other le (inl p) (inl q) (inr r) (inl s) = (omega (arith, le, p, q, r, s), omega (arith, le, p, q, r, s))
two_cases a b one other le (inl p) (inl q) (inr r) (inr s) = (omega (arith, le, p, q, r, s), omega (arith, le, p, q, r, s))
two_cases a b one other le (inl p) (inr q) r s = (omega (arith, le, p, q), omega (arith, le, p, q))
two_cases a b one other le (inr p) (inl q) r s = (omega (arith, le, p, q), omega (arith, le, p, q))
two_cases a b one other le (inr p) (inr q) (inl r) (inl s) = (omega (arith, le, p, q, r, s), omega (arith, le, p, q, r, s))
two_cases a b one other le (inr p) (inr q) (inl r) (inr s) = (omega (arith, le, p, q, r, s), omega (arith, le, p, q, r, s))
two_cases a b one other le (inr p) (inr q) (inr r) (inl s) = (omega (arith, le, p, q, r, s), omega (arith, le, p, q, r, s))
two_cases a b one other le (inr p) (inr q) (inr r) (inr s) = (omega (arith, le, p, q, r, s), omega (arith, le, p, q, r, s))

-- lists of two pairs have the same members only where the pairs are the same
pub same_pair : (p : ℕ × ℕ) (one other : ℕ) → p.1 ≤ p.0 → HaveSame (list_of p) (list_of (one, other)) → p ≡ with_first (max one other) (min one other)
same_pair p one other le same =
    let whole : HaveSame (p.0 ∷ p.1 ∷ []) (one ∷ other ∷ []) =
    same_trans (p.0 ∷ p.1 ∷ []) (list_of p) (one ∷ other ∷ []) (same_sym (list_of p) (p.0 ∷ p.1 ∷ []) (as_two p.0 p.1)) (same_trans (list_of p) (list_of (one, other)) (one ∷ other ∷ []) same (as_two one other)) in
    let first = Contains-first p.0 (p.1 ∷ []) p.0 refl in
    let second = in_rest p.0 (p.1 ∷ []) p.1 (Contains-first p.1 [] p.1 refl) in
    let third = Contains-first one (other ∷ []) one refl in
    let fourth = in_rest one (other ∷ []) other (Contains-first other [] other refl) in
    let are = two_cases p.0 p.1 one other le (one_of one other p.0 ((whole p.0).0 first)) (one_of one other p.1 ((whole p.1).0 second)) (one_of p.0 p.1 one ((whole one).1 third)) (one_of p.0 p.1 other ((whole other).1 fourth)) in
    ap₂ with_first are.0 are.1

turned : (one other : ℕ) → IsPermutation (list_of (one, other)) (list_of (max one other, min one other))
turned one other = elim (cases_order one other) [
  | inl e ↦ subst (λ (p : ℕ × ℕ). IsPermutation (list_of (one, other)) (list_of p)) (pair one other (omega (arith, e)) (omega (arith, e))) (IsPermutation-refl (list_of (one, other)))
  | inr apart ↦ elim apart [
    | inl lt ↦
        let back : IsPermutation (list_of (one, other)) (list_of (other, one)) =
        subst (λ l. IsPermutation l (list_of (other, one))) (sym (list_of-two one other (λ e. let never : ⊥ = omega (arith, e, lt) in never)))
        (subst (IsPermutation (one ∷ other ∷ [])) (sym (list_of-two other one (λ e. let never : ⊥ = omega (arith, e, lt) in never))) (exchanged_two one other [])) in
        subst (λ (p : ℕ × ℕ). IsPermutation (list_of (one, other)) (list_of p)) (pair other one (omega (arith, lt)) (omega (arith, lt))) back
    | inr gt ↦ subst (λ (p : ℕ × ℕ). IsPermutation (list_of (one, other)) (list_of p)) (pair one other (omega (arith, gt)) (omega (arith, gt))) (IsPermutation-refl (list_of (one, other)))
  ]
]
  where
    pair : (a b : ℕ) → a ≡ max one other → b ≡ min one other → with_first a b ≡ with_first (max one other) (min one other)
    pair a b p q = ap₂ with_first p q

in_order : (one other : ℕ) → IsKeptFor (list_of (one, other)) (list_of (max one other, min one other))
in_order one other = (same_order (list_of (one, other)) (list_of (max one other, min one other)) (turned one other), λ _. turned one other)

all_so : {X Y : Type 0} (f : X → Y) (Q : Y → Type 0) (xs : List X) → ((x : X) → Contains xs x → Q (f x)) → (y : Y) → Contains (map f xs) y → Q y
all_so f Q xs all y c = let x = of_map f xs y c in subst Q x.1.1 (all x.0 x.1.0)

pub all_long : (keys : List (Vec ℕ Global)) → ((v : Vec ℕ Global) → Contains keys v → 3 ≤ length v.items) → (l : List ℕ) → Contains (map items_of keys) l → 3 ≤ length l
all_long keys = all_so items_of (λ (l : List ℕ). 3 ≤ length l) keys

-- ---- a number above all that are in lists

-- what is above the first of a list, and above one more
pub above_next : (l : List ℕ) (i d bound next : ℕ) → i < length l → ((n : ℕ) → Contains (take i l) n → n < bound) → next ≡ max bound (get_or l i d + 1) → (n : ℕ) → Contains (take (i + 1) l) n → n < next
above_next l i d bound next lt below is n c =
    let more : i + 1 ≡ suc i = omega arith in
    elim (Contains-push_cases (take i l) (get_or l i d) n (subst (λ xs. Contains xs n) (ap (λ k. take k l) more ∙ take-suc l i d lt) c)) [
      | inl a ↦ omega (arith, below n a, is)
      | inr e ↦ omega (arith, e, is)
    ]

-- what is above all of a list that is inserted, and of those that are there
pub within_more : (numbers : List ℕ) (v : Vec ℕ Global) (bound above next : ℕ) → IsPermutation numbers v.items → ((n : ℕ) → Contains numbers n → n < bound) → next ≡ max above bound → (n : ℕ) → Contains v.items n → n < next
within_more numbers v bound above next order below is n c = omega (arith, below n (Contains-permutation v.items numbers n (IsPermutation-sym numbers v.items order) c), is)

-- what is above pairs, and above longer lists
pub all_under : (pairs : List (ℕ × ℕ)) (keys : List (Vec ℕ Global)) (above high bound : ℕ) → bound ≡ max above high → ((v : Vec ℕ Global) → Contains keys v → (n : ℕ) → Contains v.items n → n < above)
    → ((p : ℕ × ℕ) → Contains pairs p → (p.0 < high) × (p.1 < high)) → (list : List ℕ) → Contains (map list_of pairs ++ map items_of keys) list → (n : ℕ) → Contains list n → n < bound
all_under pairs keys above high bound is long two list c n k = elim (Contains-append_cases (map list_of pairs) (map items_of keys) list c) [
  | inl a ↦
      let p = of_map list_of pairs list a in
      let below = two p.0 p.1.0 in
      elim (one_of p.0.0 p.0.1 n ((as_two p.0.0 p.0.1 n).0 (subst (λ l. Contains l n) (sym p.1.1) k))) [
        | inl e ↦ omega (arith, e, below.0, is)
        | inr e ↦ omega (arith, e, below.1, is)
      ]
  | inr b ↦ let v = of_map items_of keys list b in omega (arith, long v.0 v.1.0 n (subst (λ l. Contains l n) (sym v.1.1) k), is)
]

-- ---- lists of pairs, then longer ones

module _ (pairs : List (ℕ × ℕ)) (longer : List (List ℕ)) where
  pub two_keep : (new : List (ℕ × ℕ)) (one other : ℕ) (is_new : Bool) → ((p : ℕ × ℕ) → Contains pairs p → p.1 ≤ p.0) → ((l : List ℕ) → Contains longer l → 3 ≤ length l)
      → KeepsPair pairs (max one other, min one other) is_new new → Keeps (map list_of pairs ++ longer) (list_of (one, other)) is_new (map list_of new ++ longer)
  two_keep new one other true ordered long (none, order) = (
    λ list c apart apart_too same. elim (Contains-append_cases (map list_of pairs) longer list c) [
      | inl a ↦
          let p = of_map list_of pairs list a in
          let is = same_pair p.0 one other (ordered p.0 p.1.0) (subst (λ l. HaveSame l (list_of (one, other))) (sym p.1.1) same) in
          none (subst (Contains pairs) is p.1.0)
      | inr b ↦ let never : ⊥ = omega (arith, long list b, no_longer list (list_of (one, other)) apart (λ x. (same x).0), short one other) in never
    ],
    (
      list_of (max one other, min one other),
      (
        in_order one other,
        IsPermutation-append_left longer (list_of (max one other, min one other) ∷ map list_of pairs) (map list_of new) (IsPermutation-map list_of ((max one other, min one other) ∷ pairs) new order),
      ),
    ),
  )
  two_keep new one other false ordered long (there, is) = (
    inr (list_of (max one other, min one other), (Contains-append_left (map list_of pairs) longer (list_of (max one other, min one other)) (in_map list_of pairs (max one other, min one other) there), in_order one other)),
    ap (λ ps. map list_of ps ++ longer) is,
  )

  pub longer_keep : (new : List (List ℕ)) (numbers kept : List ℕ) (is_new : Bool) → 3 ≤ length numbers → IsPermutation numbers kept → IsPutLast longer numbers kept is_new new
      → Keeps (map list_of pairs ++ longer) numbers is_new (map list_of pairs ++ new)
  longer_keep new numbers kept true long order (none, is) = (
    λ list c apart apart_too same. elim (Contains-append_cases (map list_of pairs) longer list c) [
      | inl a ↦
          let p = of_map list_of pairs list a in
          let few : length (list_of p.0) ≤ 2 = short p.0.0 p.0.1 in
          let never : ⊥ = omega (arith, long, no_longer numbers list apart_too (λ x. (same x).1), few, ap length p.1.1) in never
      | inr b ↦ none list b apart apart_too same
    ],
    (
      kept,
      (
        (same_order numbers kept order, λ _. order),
        subst (IsPermutation (kept ∷ (map list_of pairs ++ longer))) (append_assoc (map list_of pairs) longer (kept ∷ []) ∙ ap (λ l. map list_of pairs ++ l) (sym is))
            (IsPermutation-sym ((map list_of pairs ++ longer) ++ kept ∷ []) (kept ∷ (map list_of pairs ++ longer)) (IsPermutation-to_front (map list_of pairs ++ longer) kept)),
      ),
    ),
  )
  longer_keep new numbers kept false long order ((list, (there, is_order)), is) = (
    inr (list, (Contains-append_right (map list_of pairs) longer list there, (same_order numbers list is_order, λ _. is_order))),
    ap (λ l. map list_of pairs ++ l) is,
  )

-- other numbers with the same members
module _ (xs ys : List ℕ) (same : HaveSame xs ys) (equal : HasNoRepeat ys → xs ≡ ys) (some : xs ≡ [] → ⊥) where
  for_others : (list : List ℕ) → IsKeptFor xs list → IsKeptFor ys list
  for_others list (h, p) = (same_trans ys xs list (same_sym xs ys same) h, λ apart. subst (λ l. IsPermutation l list) (equal apart) (p (subst HasNoRepeat (sym (equal apart)) apart)))

  keep_same : (old new : List (List ℕ)) (is_new : Bool) → Keeps old xs is_new new → Keeps old ys is_new new
  keep_same old new true (none, (kept, (is, order))) = (
    λ list c apart apart_too alike. none list c apart (subst HasNoRepeat (sym (equal apart_too)) apart_too) (same_trans list ys xs alike (same_sym xs ys same)),
    (kept, (for_others kept is, order)),
  )
  keep_same old new false (inl none, is) = absurd (some none)
  keep_same old new false (inr (list, (there, is_for)), is) = (inr (list, (there, for_others list is_for)), is)

-- a list of two numbers
keep_two : (old new : List (List ℕ)) (one other : ℕ) (is_new : Bool) → Keeps old (list_of (one, other)) is_new new → Keeps old (one ∷ other ∷ []) is_new new
keep_two old new one other = keep_same (list_of (one, other)) (one ∷ other ∷ []) (as_two one other)
    (λ apart. list_of-two one other (λ e. let z = apart 0 1 other (ap (λ a. Some a) e) refl in let never : ⊥ = omega (arith, z) in never)) (not_empty one other) old new

-- ---- after a call

module _ (old new : List (List ℕ)) (numbers : List ℕ) where
  -- what was kept is kept
  pub still_kept : (is_new : Bool) → Keeps old numbers is_new new → (l : List ℕ) → Contains old l → Contains new l
  still_kept true (none, (kept, (is, order))) l c = Contains-permutation (kept ∷ old) new l order (in_rest kept old l c)
  still_kept false (known, is) l c = subst (λ ls. Contains ls l) (sym is) c

  -- a list is kept for the numbers, whether it is new or not
  pub is_kept : (is_new : Bool) → Keeps old numbers is_new new → (numbers ≡ []) ⊎ ((list : List ℕ) × (Contains new list × IsKeptFor numbers list))
  is_kept true (none, (kept, (is, order))) = inr (kept, (Contains-permutation (kept ∷ old) new kept order (Contains-first kept old kept refl), is))
  is_kept false (inl empty, is) = inl empty
  is_kept false (inr (list, (there, is_for)), is) = inr (list, (subst (λ ls. Contains ls list) (sym is) there, is_for))

  -- and nothing else
  pub was_kept : (is_new : Bool) → Keeps old numbers is_new new → (l : List ℕ) → Contains new l → Contains old l ⊎ IsKeptFor numbers l
  was_kept true (none, (kept, (is, order))) l c = elim (Contains-cons kept old l (Contains-permutation new (kept ∷ old) l (IsPermutation-sym (kept ∷ old) new order) c)) [
    | inl e ↦ inr (subst (IsKeptFor numbers) e is)
    | inr r ↦ inl r
  ]
  was_kept false (known, is) l c = inl (subst (λ ls. Contains ls l) is c)

-- no two of the lists have the same members, also after one that is new
pub differ_more : (old new : List (List ℕ)) (numbers : List ℕ) → Differ old → ((l : List ℕ) → Contains old l → HasNoRepeat l) → HasNoRepeat numbers → Keeps old numbers true new → Differ new
differ_more old new numbers differ each apart (none, (kept, (is, order))) =
    differ_order (kept ∷ old) new order (differ_cons kept old differ (λ k c same. none k c (each k c) apart (same_trans k kept numbers same (same_sym numbers kept is.0))))

two_items : (xs : List ℕ) → 2 ≤ length xs → length xs < 3 → xs ≡ get_or xs 0 0 ∷ get_or xs 1 0 ∷ []
two_items [] long short = absurd (omega (arith, long))
two_items (x ∷ []) long short = absurd (omega (arith, long))
two_items (x ∷ y ∷ []) long short = refl
two_items (x ∷ y ∷ z ∷ rest) long short = absurd (omega (arith, short))

-- ---- whatever comes of a call

module _ {E : Type 0} where
  pub two_kept : (r : Result Bool E) (pairs new : List (ℕ × ℕ)) (longer : List (List ℕ)) (one other : ℕ) → ((p : ℕ × ℕ) → Contains pairs p → p.1 ≤ p.0) → ((l : List ℕ) → Contains longer l → 3 ≤ length l)
      → IfOk r (λ is_new. KeepsPair pairs (max one other, min one other) is_new new) → IfOk r (λ is_new. Keeps (map list_of pairs ++ longer) (list_of (one, other)) is_new (map list_of new ++ longer))
  two_kept (Ok is_new) pairs new longer one other ordered long h = two_keep pairs longer new one other is_new ordered long h
  two_kept (Err e) pairs new longer one other ordered long h = h

  pub two_refused : (r : Result Bool E) (pairs new : List (ℕ × ℕ)) (longer : List (List ℕ)) → OnErr r (new ≡ pairs) → OnErr r (map list_of new ++ longer ≡ map list_of pairs ++ longer)
  two_refused (Ok is_new) pairs new longer h = h
  two_refused (Err e) pairs new longer h = ap (λ ps. map list_of ps ++ longer) h

  -- numbers that are two
  pub both_kept : (r : Result Bool E) (old new : List (List ℕ)) (numbers items : List ℕ) → items ≡ numbers → 2 ≤ length items → length items < 3 → IfOk r (λ is_new. Keeps old (list_of (get_or items 0 0, get_or items 1 0)) is_new new) → IfOk r (λ is_new. Keeps old numbers is_new new)
  both_kept (Ok is_new) old new numbers items same long short h = subst (λ l. Keeps old l is_new new) (sym (two_items items long short) ∙ same) (keep_two old new (get_or items 0 0) (get_or items 1 0) is_new h)
  both_kept (Err e) old new numbers items same long short h = h
