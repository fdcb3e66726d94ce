-- Sets of numbers: what is in them, and where a number comes to one.
use Rattle.std.proofs.Common.{◌≡◌, ◌⊎◌, ◌∙◌, ℕ, zero, suc, ◌+◌, ◌<◌, ◌≤◌, max, Bool, true, false, not, cond, List, ◌∷◌, map, length, Contains, refl, sym, ap, subst, arith, inl, inr, true≢false}
use Rattle.std.specs.List.{filter, range_with_len}
use Rattle.std.specs.List.Sorted.{IsPermutation}
use Rattle.std.proofs.lemmas.Bool.{cases_eq}
use Rattle.std.proofs.lemmas.List.Elements.{filter_agree}
use Rattle.std.proofs.lemmas.List.Sorted.{length_permutation, IsPermutation-sym, Contains-permutation}
use Rattle.rule_cycle_search.specs.Paths.{HasNoRepeat}
use Rattle.rule_cycle_search.proofs.Lists.{Contains-cons}
use Rattle.list_interner.specs.declared.bits.Bits.{Bits}
use Rattle.list_interner.specs.declared.set.NumberSet.{NumberSet}
use Rattle.list_interner.specs.Bits.{has, bits_below, HaveSameBits, Sets}
use Rattle.list_interner.specs.NumberSet.{numbers_in, PutsIn}
use Rattle.list_interner.proofs.Standing.{no_repeat_before}
use Rattle.list_interner.proofs.Few.{from_apart}
use Rattle.list_interner.proofs.Rows.{same_has, of_filter, in_filter, of_range, in_range, one_more, with_first, row_apart}

-- none that passes the test is that high
abbrev pub AllBelow : (ℕ → Bool) → ℕ → Type 0
AllBelow p bound = (n : ℕ) → p n ≡ true → n < bound

above_false : (p : ℕ → Bool) (bound n : ℕ) → AllBelow p bound → bound ≤ n → p n ≡ false
above_false p bound n below le = by (p n) refl
  where
    by : (b : Bool) → p n ≡ b → b ≡ false
    by true e = let never : ⊥ = omega (arith, below n e, le) in absurd never
    by false e = refl

-- where all are below a number, no more pass below a greater one
wider : (p : ℕ → Bool) (a n m : ℕ) → n ≤ m → AllBelow p (a + n) → filter p (range_with_len a m) ≡ filter p (range_with_len a n)
wider p a zero zero le below = refl
wider p a zero (suc m) le below =
    ap (λ b. cond b (a ∷ filter p (range_with_len (a + 1) m)) (filter p (range_with_len (a + 1) m))) (above_false p (a + zero) a below (omega arith))
    ∙ wider p (a + 1) zero m (omega arith) (λ n e. omega (arith, below n e))
wider p a (suc n) zero le below = absurd (omega (arith, le))
wider p a (suc n) (suc m) le below = ap (λ l. cond (p a) (a ∷ l) l) (wider p (a + 1) n m (omega (arith, le)) (λ k e. omega (arith, below k e)))

-- ---- what is in it

pub of_below : (bits : Bits) (bound n : ℕ) → Contains (bits_below bits bound) n → (has bits n ≡ true) × (n < bound)
of_below bits bound n c = let k = of_filter (has bits) (range_with_len 0 bound) n c in (k.0, omega (arith, of_range 0 bound n k.1))

pub in_below : (bits : Bits) (bound n : ℕ) → AllBelow (has bits) bound → has bits n ≡ true → Contains (bits_below bits bound) n
in_below bits bound n below e = in_filter (has bits) (range_with_len 0 bound) n e (in_range 0 bound n (omega arith) (omega (arith, below n e)))

same_below : (old new : Bits) (bound : ℕ) → ((n : ℕ) → has new n ≡ has old n) → bits_below new bound ≡ bits_below old bound
same_below old new bound same = filter_agree (has new) (has old) same (range_with_len 0 bound)

still_below : (old new : Bits) (bound : ℕ) → ((n : ℕ) → has new n ≡ has old n) → AllBelow (has old) bound → AllBelow (has new) bound
still_below old new bound same below n e = below n (sym (same n) ∙ e)

-- ---- where a number is put in

module _ (old new : Bits) (bound number : ℕ) (below : AllBelow (has old) bound) where
  was_out : (true ≡ not (has old number)) → has old number ≡ false
  was_out e = by (has old number) e
    where
      by : (b : Bool) → true ≡ not b → b ≡ false
      by true f = absurd (true≢false f)
      by false f = refl

  was_in : (false ≡ not (has old number)) → has old number ≡ true
  was_in e = by (has old number) e
    where
      by : (b : Bool) → false ≡ not b → b ≡ true
      by true f = refl
      by false f = absurd (true≢false (sym f))

  -- one that is there changes nothing
  same_bits : Sets old number false new → (n : ℕ) → has new n ≡ has old n
  same_bits (says, (is_in, same)) n = elim (cases_eq n number) [
    | inl s ↦ ap (has new) s ∙ is_in ∙ sym (was_in says) ∙ ap (has old) (sym s)
    | inr d ↦ same n d
  ]

  -- one that is new comes to the others
  one_more_below : (next : ℕ) → next ≡ max bound (number + 1) → Sets old number true new → IsPermutation (number ∷ bits_below old bound) (bits_below new next)
  one_more_below next is (says, (is_in, same)) =
      subst (λ l. IsPermutation (number ∷ l) (bits_below new next)) (wider (has old) 0 bound next (omega (arith, is)) (λ n e. omega (arith, below n e)))
      (one_more (has old) (has new) number 0 next (omega arith) (omega (arith, is)) (was_out says) is_in same)

  -- and all are below what is above both
  pub all_below : (next : ℕ) → next ≡ max bound (number + 1) → Sets old number true new → AllBelow (has new) next
  all_below next is (says, (is_in, same)) n e = elim (cases_eq n number) [
    | inl s ↦ omega (arith, s, is)
    | inr d ↦ omega (arith, below n (sym (same n d) ∙ e), is)
  ]

  pub counts_one : (len next : ℕ) → next ≡ max bound (number + 1) → len ≡ length (bits_below old bound) → Sets old number true new → len + 1 ≡ length (bits_below new next)
  counts_one len next is counted sets = omega (arith, counted, length_permutation (number ∷ bits_below old bound) (bits_below new next) (one_more_below next is sets))

  pub counts_none : (len : ℕ) → len ≡ length (bits_below old bound) → Sets old number false new → len ≡ length (bits_below new bound)
  counts_none len counted sets = counted ∙ ap length (sym (same_below old new bound (same_bits sets)))

  pub none_above : Sets old number false new → AllBelow (has new) bound
  none_above sets = still_below old new bound (same_bits sets) below

  pub puts_new : (next : ℕ) → next ≡ max bound (number + 1) → Sets old number true new → PutsIn (bits_below old bound) number true (bits_below new next)
  puts_new next is sets = (λ c. true≢false (sym (of_below old bound number c).0 ∙ was_out sets.0), one_more_below next is sets)

  pub puts_known : Sets old number false new → PutsIn (bits_below old bound) number false (bits_below new bound)
  puts_known sets = (in_below old bound number below (was_in sets.0), same_below old new bound (same_bits sets))

-- bits that are the same are the same set
module _ (old new : Bits) (bound : ℕ) (same : HaveSameBits old new) where
  pub same_set : bits_below new bound ≡ bits_below old bound
  same_set = same_below old new bound (same_has old new same)

  pub same_bound : AllBelow (has old) bound → AllBelow (has new) bound
  same_bound = still_below old new bound (same_has old new same)

-- ---- sets of the program

-- each number is there once
pub numbers_once : (s : NumberSet) → HasNoRepeat (numbers_in s)
numbers_once s = no_repeat_before (with_first 0) (numbers_in s) (from_apart (map (with_first 0) (numbers_in s)) (row_apart 0 (has s.bits) 0 s.bound))

module _ (old new : List ℕ) (n : ℕ) where
  -- nothing else comes to it
  pub was_there : (is_new : Bool) → PutsIn old n is_new new → (m : ℕ) → Contains new m → Contains old m ⊎ (n ≡ m)
  was_there true (none, order) m c = elim (Contains-cons n old m (Contains-permutation new (n ∷ old) m (IsPermutation-sym (n ∷ old) new order) c)) [
    | inl e ↦ inr e
    | inr r ↦ inl r
  ]
  was_there false (there, is) m c = inl (subst (λ l. Contains l m) is c)

  -- and nothing goes
  pub as_many : (is_new : Bool) → PutsIn old n is_new new → length old ≤ length new
  as_many true (none, order) = omega (arith, length_permutation (n ∷ old) new order)
  as_many false (there, is) = omega (arith, ap length is)
