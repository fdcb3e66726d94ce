-- How many places pass a test.
use Rattle.std.proofs.Common.{◌≡◌, ℕ, zero, suc, ◌+◌, ◌<◌, ◌≤◌, Bool, true, false, ◌&&◌, cond, refl, sym, ◌∙◌, ap, subst, arith, add-zero, inl, inr}
use lib.Dec.{leb, leb-zero}
use Rattle.std.proofs.lemmas.Bool.Decides.{leb_tells}
use Rattle.report_forms.specs.Ends.{how_many}

abbrev pub one_if : Bool → ℕ
one_if b = cond b 1 0

-- one that does not pass adds nothing
pub none_here : (b c : Bool) → c ≡ false → one_if (b && c) ≡ 0
none_here true c e = ap one_if e
none_here false c e = refl

-- one that passes adds one
pub counted_here : (n : ℕ) (c : Bool) → c ≡ true → one_if (leb 0 n && c) ≡ 1
counted_here n c e = ap (λ b. one_if (b && c)) (leb-zero n) ∙ ap one_if e

-- if none passes after `mid`, as many pass as up to there
pub how_many-none : (p : ℕ → Bool) (low mid high : ℕ) → mid ≤ high → ((k : ℕ) → mid < k → k ≤ high → p k ≡ false) → how_many p low high ≡ how_many p low mid
how_many-none p low mid zero le none = let e : zero ≡ mid = omega arith in ap (λ n. how_many p low n) e
how_many-none p low mid (suc n) le none = elim (leb_tells mid n) [
  | inl h ↦ ap (λ x. how_many p low n + x) (none_here _ (p (suc n)) (none (suc n) (omega arith) (omega arith))) ∙ add-zero _
      ∙ how_many-none p low mid n h.1 (λ k after upto. none k after (omega arith))
  | inr h ↦ let e : suc n ≡ mid = omega arith in ap (λ m. how_many p low m) e
]

-- none is above `low` and up to it
pub how_many-self : (p : ℕ → Bool) (low : ℕ) → how_many p low low ≡ 0
how_many-self p low = none_up_to low (omega arith)
  where
    none_up_to : (n : ℕ) → n ≤ low → how_many p low n ≡ 0
    none_up_to zero le = refl
    none_up_to (suc n) le = elim (leb_tells low n) [
      | inl h ↦ absurd (omega arith)
      | inr h ↦ ap (λ b. how_many p low n + one_if (b && p (suc n))) h.0 ∙ add-zero _ ∙ none_up_to n (omega arith)
    ]

-- up to a later place as many pass, or more
pub how_many-le : (p : ℕ → Bool) (low mid high : ℕ) → mid ≤ high → how_many p low mid ≤ how_many p low high
how_many-le p low mid zero le = let e : mid ≡ zero = omega arith in subst (λ (n : ℕ). how_many p low n ≤ how_many p low zero) (sym e) (omega arith)
how_many-le p low mid (suc n) le = elim (leb_tells mid n) [
  | inl h ↦ omega (arith, how_many-le p low mid n h.1)
  | inr h ↦ let e : mid ≡ suc n = omega arith in subst (λ (m : ℕ). how_many p low m ≤ how_many p low (suc n)) (sym e) (omega arith)
]

-- those up to a place between, and those after it
pub how_many-split : (p : ℕ → Bool) (low mid high : ℕ) → low ≤ mid → mid ≤ high → how_many p low high ≡ how_many p low mid + how_many p mid high
how_many-split p low mid zero after before = let e : mid ≡ zero = omega arith in subst (λ (m : ℕ). how_many p low zero ≡ how_many p low m + how_many p m zero) (sym e) refl
how_many-split p low mid (suc n) after before = elim (leb_tells mid n) [
  | inl h ↦
      let here : leb low n ≡ true = elim (leb_tells low n) [ inl g ↦ g.0 | inr g ↦ absurd (omega (arith, g.1, h.1, after)) ] in
      let one : how_many p low (suc n) ≡ how_many p low n + one_if (p (suc n)) = ap (λ b. how_many p low n + one_if (b && p (suc n))) here in
      let other : how_many p mid (suc n) ≡ how_many p mid n + one_if (p (suc n)) = ap (λ b. how_many p mid n + one_if (b && p (suc n))) h.0 in
      omega (arith, one, other, how_many-split p low mid n after h.1)
  | inr h ↦
      let e : mid ≡ suc n = omega (arith, h.1) in
      subst (λ (m : ℕ). how_many p low (suc n) ≡ how_many p low m + how_many p m (suc n)) (sym e) (omega (arith, how_many-self p (suc n)))
]

one_if-le : (b : Bool) → one_if b ≤ 1
one_if-le true = omega arith
one_if-le false = omega arith

-- no more pass than there are
pub how_many-bound : (p : ℕ → Bool) (low high : ℕ) → how_many p low high ≤ high
how_many-bound p low zero = omega arith
how_many-bound p low (suc n) = omega (arith, how_many-bound p low n, one_if-le (leb low n && p (suc n)))
