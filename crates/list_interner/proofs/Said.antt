-- What numbers say, as lists and pairs of them are remembered: where no two numbers say the same, what they say is remembered like them.
use Rattle.std.proofs.Common.{◌≡◌, ◌⊎◌, ◌∙◌, ℕ, min, max, Bool, true, false, List, [], ◌∷◌, map, slice_get, Some, Contains, sym, ap, ap₂, subst, arith, inl, inr}
use Rattle.std.specs.List.Sorted.{IsPermutation}
use Rattle.std.proofs.lemmas.Bool.{cases_lt}
use Rattle.std.proofs.lemmas.List.Sorted.{IsPermutation-map}
use Rattle.rule_cycle_search.specs.Paths.{HasNoRepeat}
use Rattle.rule_cycle_search.proofs.Lists.{mapped_some, slice_get-map}
use Rattle.list_interner.specs.NumberLists.{HaveSame, IsKeptFor, Keeps}
use Rattle.list_interner.specs.NumberPairs.{KeepsPair}
use Rattle.list_interner.proofs.Standing.{in_map, of_map, no_repeat_before, same_sym, same_order}
use Rattle.list_interner.proofs.Rows.{exchanged_two}

module _ {X : Type 0} where
  -- one of these lists has the same members
  abbrev pub HasKnown : List (List X) → List X → Type 0
  HasKnown lists list = (known : List X) × (Contains lists known × HaveSame known list)

  -- a list that is new comes to the others, in some order; of one that is not new one with its members was there, or it has none
  abbrev pub Comes : List (List X) → List X → Bool → List (List X) → Type 0
  Comes old list true new = (kept : List X) × (HaveSame list kept × ((HasNoRepeat list → IsPermutation list kept) × IsPermutation (kept ∷ old) new))
  Comes old list false new = ((list ≡ []) ⊎ HasKnown old list) × (new ≡ old)

  -- none of these lists has the same members, if neither has a repeat
  abbrev pub IsUnlike : List (List X) → List X → Type 0
  IsUnlike lists list = (known : List X) → Contains lists known → HasNoRepeat known → HasNoRepeat list → HaveSame known list → ⊥

  -- two that are new come to the others, in some order; of two that are not new a list was there
  abbrev pub TwoCome : List (List X) → List X → Bool → List (List X) → Type 0
  TwoCome old two true new = (kept : List X) × (HaveSame kept two × IsPermutation (kept ∷ old) new)
  TwoCome old two false new = HasKnown old two × (new ≡ old)

module _ {X : Type 0} (say : ℕ → X) where
  pub same_said : (xs ys : List ℕ) → HaveSame xs ys → HaveSame (map say xs) (map say ys)
  same_said xs ys same x = (one xs ys (λ n. (same n).0), one ys xs (λ n. (same n).1))
    where
      one : (us vs : List ℕ) → ((n : ℕ) → Contains us n → Contains vs n) → Contains (map say us) x → Contains (map say vs) x
      one us vs on c = let n = of_map say us x c in subst (Contains (map say vs)) n.1.1 (in_map say vs n.0 (on n.0 n.1.0))

  -- what a list says comes to what the others say
  pub list_said : (old new : List (List ℕ)) (numbers : List ℕ) (is_new : Bool) → Keeps old numbers is_new new → Comes (map (map say) old) (map say numbers) is_new (map (map say) new)
  list_said old new numbers true (none, (kept, (is, order))) = (
    map say kept,
    (same_said numbers kept is.0, (λ apart. IsPermutation-map say numbers kept (is.1 (no_repeat_before say numbers apart)), IsPermutation-map (map say) (kept ∷ old) new order)),
  )
  list_said old new numbers false (known, is) = (by known, ap (map (map say)) is)
    where
      by : (numbers ≡ []) ⊎ ((list : List ℕ) × (Contains old list × IsKeptFor numbers list)) → (map say numbers ≡ []) ⊎ HasKnown (map (map say) old) (map say numbers)
      by (inl none) = inl (ap (map say) none)
      by (inr (list, (there, is_for))) = inr (map say list, (in_map (map say) old list there, same_said list numbers (same_sym numbers list is_for.0)))

  -- what two numbers say, in whatever order
  abbrev pub say_both : ℕ × ℕ → List X
  say_both p = say p.0 ∷ say p.1 ∷ []

  two_said : (a b : ℕ) → HaveSame (say_both (max a b, min a b)) (say_both (a, b))
  two_said a b = elim (cases_lt a b) [
    | inl lt ↦
        let high : b ≡ max a b = omega (arith, lt) in
        let low : a ≡ min a b = omega (arith, lt) in
        subst (λ l. HaveSame l (say_both (a, b))) (ap₂ (λ m n. say m ∷ say n ∷ []) high low) (same_order (say b ∷ say a ∷ []) (say a ∷ say b ∷ []) (exchanged_two (say b) (say a) []))
    | inr le ↦
        let high : a ≡ max a b = omega (arith, le) in
        let low : b ≡ min a b = omega (arith, le) in
        subst (λ l. HaveSame l (say_both (a, b))) (ap₂ (λ m n. say m ∷ say n ∷ []) high low) (λ x. (λ c. c, λ c. c))
  ]

  pub pair_said : (old new : List (ℕ × ℕ)) (a b : ℕ) (is_new : Bool) → KeepsPair old (max a b, min a b) is_new new → TwoCome (map say_both old) (say_both (a, b)) is_new (map say_both new)
  pair_said old new a b true (none, order) = (say_both (max a b, min a b), (two_said a b, IsPermutation-map say_both ((max a b, min a b) ∷ old) new order))
  pair_said old new a b false (there, is) = ((say_both (max a b, min a b), (in_map say_both old (max a b, min a b) there, two_said a b)), ap (map say_both) is)

  -- where no two numbers say the same
  module _ (differ : (m n : ℕ) → say m ≡ say n → m ≡ n) where
    pub same_numbers : (xs ys : List ℕ) → HaveSame (map say xs) (map say ys) → HaveSame xs ys
    same_numbers xs ys same n = (one xs ys (λ x. (same x).0), one ys xs (λ x. (same x).1))
      where
        one : (us vs : List ℕ) → ((x : X) → Contains (map say us) x → Contains (map say vs) x) → Contains us n → Contains vs n
        one us vs on c = let m = of_map say vs (say n) (on (say n) (in_map say us n c)) in subst (Contains vs) (differ m.0 n m.1.1) m.1.0

    pub apart_said : (xs : List ℕ) → HasNoRepeat xs → HasNoRepeat (map say xs)
    apart_said xs apart i j x h k =
        let m = mapped_some say (slice_get xs i) x (sym (slice_get-map say xs i) ∙ h) in
        let n = mapped_some say (slice_get xs j) x (sym (slice_get-map say xs j) ∙ k) in
        apart i j m.0 m.1.0 (n.1.0 ∙ ap (λ a. Some a) (differ n.0 m.0 (sym n.1.1 ∙ m.1.1)))

    -- a list that is new says what none of the others says
    pub unlike_said : (old new : List (List ℕ)) (numbers : List ℕ) → Keeps old numbers true new → IsUnlike (map (map say) old) (map say numbers)
    unlike_said old new numbers (none, kept) list c apart apart_too same =
        let l = of_map (map say) old list c in
        none l.0 l.1.0 (no_repeat_before say l.0 (subst HasNoRepeat (sym l.1.1) apart)) (no_repeat_before say numbers apart_too) (same_numbers l.0 numbers (subst (λ k. HaveSame k (map say numbers)) (sym l.1.1) same))
