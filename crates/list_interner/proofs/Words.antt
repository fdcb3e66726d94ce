-- Words of bits: where words without bits come to them, and where a bit of one is set.
use Rattle.std.proofs.Common.{◌≡◌, ◌≢◌, ◌∙◌, ℕ, ◌-◌, ◌*◌, ◌/◌, ◌%◌, ◌^◌, ◌<◌, ◌≤◌, Bool, true, false, not, ◌==◌, List, [], ◌++◌, length, get_or, set, replicate, refl, sym, ap, subst, append_assoc, append-nil, arith, w64, bit_and, bit_or, inl, inr, get_or-set_same, get_or-set_other, mod-lt, zero-lt-suc, pow_pos, shl_exact, one-mul, zero-mul, eq-eqb, ne_eqb}
use Rattle.std.specs.Int.{bit_at}
use Rattle.std.proofs.lemmas.Bool.{cases_lt, cases_eq}
use Rattle.std.proofs.lemmas.List.{length-replicate, get_or-replicate, replicate-append-replicate, get_or_append_left, get_or-append_right, get_or_past}
use Rattle.std.proofs.lemmas.Nat.Bits.{and_pow, bit_at_set_same, bit_at_set_other, bit_at-zero, bit_at-lt}

pub zeros : (n k : ℕ) → get_or {A = ℕ} (replicate n 0) k 0 ≡ 0
zeros n k = elim (cases_lt k n) [
  | inl low ↦ get_or-replicate n k 0 0 low
  | inr past ↦ get_or_past (replicate n 0) k 0 (omega (arith, past, length-replicate {A = ℕ} n 0))
]

-- no words, after however many zeros
pub no_words : (before k : ℕ) → get_or {A = ℕ} (replicate before 0 ++ []) k 0 ≡ 0
no_words before k = ap (λ l. get_or l k 0) (append-nil (replicate before 0)) ∙ zeros before k

-- words without bits at the end
pub zeros_after : (words : List ℕ) (n k : ℕ) → get_or (words ++ replicate n 0) k 0 ≡ get_or words k 0
zeros_after words n k = elim (cases_lt k (length words)) [
  | inl low ↦ get_or_append_left words (replicate n 0) 0 k low
  | inr past ↦ get_or-append_right words (replicate n 0) (length words) k 0 refl past ∙ zeros n (k - length words) ∙ sym (get_or_past words k 0 past)
]

pub more_after : (before : ℕ) (words : List ℕ) (n k : ℕ) → get_or (replicate before 0 ++ (words ++ replicate n 0)) k 0 ≡ get_or (replicate before 0 ++ words) k 0
more_after before words n k = ap (λ l. get_or l k 0) (sym (append_assoc (replicate before 0) words (replicate n 0))) ∙ zeros_after (replicate before 0 ++ words) n k

-- words without bits at the front
pub more_before : (first before : ℕ) (words : List ℕ) → first ≤ before → replicate first 0 ++ (replicate (before - first) 0 ++ words) ≡ replicate before 0 ++ words
more_before first before words le =
    sym (append_assoc (replicate first 0) (replicate (before - first) 0) words)
    ∙ ap (λ l. l ++ words) (replicate-append-replicate first (before - first) 0 ∙ ap (λ n. replicate n 0) (omega (arith, le)))

-- a word that is kept, and one that is not
pub at_kept : (before : ℕ) (words : List ℕ) (k : ℕ) → before ≤ k → get_or (replicate before 0 ++ words) k 0 ≡ get_or words (k - before) 0
at_kept before words k le = get_or-append_right (replicate before 0) words before k 0 (length-replicate {A = ℕ} before 0) le

pub at_before : (before : ℕ) (words : List ℕ) (k : ℕ) → k < before → get_or (replicate before 0 ++ words) k 0 ≡ 0
at_before before words k lt = get_or_append_left (replicate before 0) words 0 k (omega (arith, lt, length-replicate {A = ℕ} before 0)) ∙ get_or-replicate before k 0 0 lt

-- ---- one bit

-- the word that has this bit alone, as it is computed
abbrev pub one_bit : ℕ → ℕ
one_bit k = 1 * 2 ^ k % 2 ^ 64

one_bit_is : (k : ℕ) → k < 64 → one_bit k ≡ 2 ^ k
one_bit_is k lt = shl_exact {a = 1} 1 k 64 (omega arith) (omega (arith, lt)) ∙ one-mul (2 ^ k)

pub no_bits : (k : ℕ) → (bit_at 0 k == 1) ≡ false
no_bits k = ap (λ b. b == 1) (bit_at-zero k)

-- the test of a bit
pub tested : (word k : ℕ) → k < 64 → (bit_and word (one_bit k) == 0) ≡ not (bit_at word k == 1)
tested word k lt = ap (λ b. bit_and word b == 0) (one_bit_is k lt) ∙ ap (λ b. b == 0) (and_pow word k) ∙ by (bit_at word k) (bit_at-lt word k)
  where
    by : (b : ℕ) → b < 2 → (b * 2 ^ k == 0) ≡ not (b == 1)
    by b low = elim (cases_eq b 0) [
      | inl none ↦ eq-eqb (b * 2 ^ k) 0 (ap (λ c. c * 2 ^ k) none ∙ zero-mul (2 ^ k)) ∙ sym (ap (λ c. not (c == 1)) none)
      | inr some ↦
          let one : b ≡ 1 = omega (arith, low, some) in
          let more : 0 < b * 2 ^ k = subst (λ c. 0 < c * 2 ^ k) (sym one) (omega (arith, pow_pos k)) in
          ne_eqb (b * 2 ^ k) 0 (λ e. let never : ⊥ = omega (arith, e, more) in never) ∙ sym (ap (λ c. not (c == 1)) one)
    ]

-- ---- where the bit of a number is set

module _ (before : ℕ) (words : List ℕ) (number : ℕ) (above : before ≤ number / 64) (kept : number / 64 - before < length words) where
  abbrev place : ℕ
  place = number / 64 - before

  abbrev now : List ℕ
  now = set words place (bit_or (get_or words place 0) (one_bit (number % 64)))

  pub was_set : (bit_and (get_or words place 0) (one_bit (number % 64)) == 0) ≡ not (bit_at (get_or (replicate before 0 ++ words) (number / 64) 0) (number % 64) == 1)
  was_set = tested (get_or words place 0) (number % 64) (mod-lt number (zero-lt-suc 63)) ∙ ap (λ w. not (bit_at w (number % 64) == 1)) (sym (at_kept before words (number / 64) above))

  pub is_set : (bit_at (get_or (replicate before 0 ++ now) (number / 64) 0) (number % 64) == 1) ≡ true
  is_set = ap (λ w. bit_at w (number % 64) == 1) (at_kept before now (number / 64) above ∙ get_or-set_same words place (bit_or (get_or words place 0) (one_bit (number % 64))) 0 kept)
      ∙ ap (λ b. b == 1) (bit_at_set_same w64 (get_or words place 0) (number % 64) (mod-lt number (zero-lt-suc 63)))

  pub others_stay : (n : ℕ) → n ≢ number → (bit_at (get_or (replicate before 0 ++ now) (n / 64) 0) (n % 64) == 1) ≡ (bit_at (get_or (replicate before 0 ++ words) (n / 64) 0) (n % 64) == 1)
  others_stay n differ = elim (cases_eq (n / 64) (number / 64)) [
    | inl same ↦
        let other : n % 64 ≡ number % 64 → ⊥ = λ e. differ (omega (arith, e, same)) in
        let at_old : get_or (replicate before 0 ++ words) (n / 64) 0 ≡ get_or words place 0 = ap (λ k. get_or (replicate before 0 ++ words) k 0) same ∙ at_kept before words (number / 64) above in
        let at_new : get_or (replicate before 0 ++ now) (n / 64) 0 ≡ bit_or (get_or words place 0) (one_bit (number % 64)) =
        ap (λ k. get_or (replicate before 0 ++ now) k 0) same ∙ at_kept before now (number / 64) above ∙ get_or-set_same words place (bit_or (get_or words place 0) (one_bit (number % 64))) 0 kept in
        ap (λ w. bit_at w (n % 64) == 1) at_new ∙ ap (λ b. b == 1) (bit_at_set_other w64 (get_or words place 0) (number % 64) (mod-lt number (zero-lt-suc 63)) (n % 64) other)
        ∙ ap (λ w. bit_at w (n % 64) == 1) (sym at_old)
    | inr apart ↦ ap (λ w. bit_at w (n % 64) == 1) (elsewhere (n / 64) apart)
  ]
    where
      elsewhere : (k : ℕ) → (k ≡ number / 64 → ⊥) → get_or (replicate before 0 ++ now) k 0 ≡ get_or (replicate before 0 ++ words) k 0
      elsewhere k apart = elim (cases_lt k before) [
        | inl low ↦ at_before before now k low ∙ sym (at_before before words k low)
        | inr high ↦ at_kept before now k high
            ∙ get_or-set_other words place (k - before) (bit_or (get_or words place 0) (one_bit (number % 64))) 0 (λ e. apart (omega (arith, e, high, above)))
            ∙ sym (at_kept before words k high)
      ]

twice : (b : Bool) → not (not b) ≡ b
twice true = refl
twice false = refl

-- a bit that is read
pub bit_is : (before : ℕ) (words : List ℕ) (number word : ℕ) → before ≤ number / 64 → word ≡ get_or words (number / 64 - before) 0
    → not (bit_and word (one_bit (number % 64)) == 0) ≡ (bit_at (get_or (replicate before 0 ++ words) (number / 64) 0) (number % 64) == 1)
bit_is before words number word above is =
    let same : get_or (replicate before 0 ++ words) (number / 64) 0 ≡ word = at_kept before words (number / 64) above ∙ sym is in
    ap not (tested word (number % 64) (mod-lt number (zero-lt-suc 63))) ∙ twice (bit_at word (number % 64) == 1) ∙ ap (λ w. bit_at w (number % 64) == 1) (sym same)
