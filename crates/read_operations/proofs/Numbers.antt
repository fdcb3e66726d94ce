-- The texts of Int and Float tokens are those of the rules of numbers.
use Rattle.std.proofs.Common.{◌≡◌, ◌⊎◌, ℕ, suc, ◌<◌, Bool, true, false, cond, ◌==◌, ◌||◌, ◌&&◌, List, [], ◌∷◌, ◌++◌, length, refl, sym, ap, ◌∙◌, inl, inr, arith, eqb-true, append_assoc}
use Rattle.std.proofs.lemmas.List.{append-nil}
use Rattle.std.proofs.Math.Bool.{or-true}
use Rattle.std.specs.Char.{is_ascii_digit}
use Rattle.tree_literals.specs.NumberSyntax.{is_digits, is_nothing, has_leading_zero, is_natural, without_minus, without_sign, is_fraction, is_exponent, followed_by, is_float_tail, is_int_value, is_float_value, IsIntValue, IsFloatValue}
use Rattle.read_tokens.specs.Bytes.{begins_by}
use Rattle.read_tokens.specs.Numbers.{is_zero, is_exponent_mark, is_sign}
use Rattle.read_tokens.specs.declared.token.TokenKind.TheVariants as k
use Rattle.read_tokens.proofs.NumberTexts.{NumberText, Digits, Natural, Fraction, Exponent}

-- a digit is none of the marks
other_than : (mark d : ℕ) → is_ascii_digit mark ≡ false → is_ascii_digit d ≡ true → (d == mark) ≡ false
other_than mark d none is = go (d == mark) refl
  where
    go : (t : Bool) → (d == mark) ≡ t → (d == mark) ≡ false
    go true e = let both : true ≡ false = sym is ∙ ap is_ascii_digit (eqb-true d mark e) ∙ none in absurd cc
    go false e = e

first_of : (a b : Bool) → (a && b) ≡ true → a ≡ true
first_of true b h = refl
first_of false b h = absurd cc

digits_true : (ds : List ℕ) → Digits ds → is_digits ds ≡ true
digits_true [] h = let some = h.some in absurd (omega (arith, some))
digits_true (d ∷ ds) h = h.are

first_digit : (d : ℕ) (ds : List ℕ) → Digits (d ∷ ds) → is_ascii_digit d ≡ true
first_digit d ds h = first_of (is_ascii_digit d) _ h.are

no_leading_zero : (ds : List ℕ) → (begins_by is_zero ds ≡ true → length ds ≡ 1) → has_leading_zero ds ≡ false
no_leading_zero [] h = refl
no_leading_zero (d ∷ []) h = go (d == 48)
  where
    go : (t : Bool) → (t && false) ≡ false
    go true = refl
    go false = refl
no_leading_zero (d ∷ e ∷ ds) h = go (d == 48) refl
  where
    go : (t : Bool) → (d == 48) ≡ t → (t && true) ≡ false
    go true is = let one = h is in absurd (omega (arith, one))
    go false is = refl

natural_true : (ds : List ℕ) → Natural ds → is_natural ds ≡ true
natural_true ds h = rw (digits_true ds h.digits, no_leading_zero ds h.lead) refl

-- a whole number with a sign before it or none
unsigned : (sign whole rest : List ℕ) → (sign ≡ []) ⊎ (sign ≡ 45 ∷ []) → Digits whole → without_minus (sign ++ (whole ++ rest)) ≡ whole ++ rest
unsigned sign whole rest (inr e) h = rw e refl
unsigned sign [] rest (inl e) h = let some = h.some in absurd (omega (arith, some))
unsigned sign (d ∷ ds) rest (inl e) h = rw e (rw (other_than 45 d refl (first_digit d ds h)) refl)

pub int_value : (text : List ℕ) → NumberText k.Int text → IsIntValue text
int_value text n =
    let parts = n.int refl in
    let is : text ≡ n.sign ++ (n.whole ++ []) = n.is ∙ ap (λ (xs : List ℕ). ((n.sign ++ n.whole) ++ n.fraction) ++ xs) parts.1 ∙ append-nil ((n.sign ++ n.whole) ++ n.fraction) ∙ ap (λ (xs : List ℕ). (n.sign ++ n.whole) ++ xs) parts.0 ∙ append-nil (n.sign ++ n.whole) ∙ ap (λ (xs : List ℕ). n.sign ++ xs) (sym (append-nil n.whole)) in
    ap is_int_value is ∙ ap is_natural (unsigned n.sign n.whole [] n.signs n.natural.digits ∙ append-nil n.whole) ∙ natural_true n.whole n.natural

-- two parts that pass follow each other
followed : (p q : List ℕ → Bool) (xs ys : List ℕ) → p xs ≡ true → q ys ≡ true → followed_by p q (xs ++ ys) ≡ true
followed p q [] [] h g = rw (h, g) refl
followed p q [] (y ∷ ys) h g = rw (h, g) refl
followed p q (x ∷ xs) ys h g = rw (followed (λ ds. p (x ∷ ds)) q xs ys h g) (or-true (p [] && q (x ∷ (xs ++ ys))))

fraction_true : (text : List ℕ) → Fraction text → is_fraction text ≡ true
fraction_true text f = ap is_fraction f.is ∙ digits_true f.digits f.are

mark_true : (b : ℕ) → is_exponent_mark b ≡ true → (b == 101 || b == 69) ≡ true
mark_true b h = go (b == 69) (b == 101) h
  where
    go : (x y : Bool) → (x || y) ≡ true → (y || x) ≡ true
    go x true h = refl
    go true false h = refl
    go false false h = absurd cc

without_its_sign : (sign digits : List ℕ) → (sign ≡ []) ⊎ ((b : ℕ) × ((sign ≡ b ∷ []) × (is_sign b ≡ true))) → Digits digits → without_sign (sign ++ digits) ≡ digits
without_its_sign sign digits (inr b) h = rw b.1.0 (rw b.1.1 refl)
without_its_sign sign [] (inl e) h = let some = h.some in absurd (omega (arith, some))
without_its_sign sign (d ∷ ds) (inl e) h = rw e (rw (other_than 43 d refl (first_digit d ds h), other_than 45 d refl (first_digit d ds h)) refl)

exponent_true : (text : List ℕ) → Exponent text → is_exponent text ≡ true
exponent_true text e =
    let rest : is_digits (without_sign (e.sign ++ e.digits)) ≡ true = ap is_digits (without_its_sign e.sign e.digits e.signs e.are) ∙ digits_true e.digits e.are in
    ap is_exponent e.is ∙ rw (mark_true e.mark e.marks, rest) refl

fraction_tail : (text : List ℕ) → is_fraction text ≡ true → is_float_tail text ≡ true
fraction_tail text h = rw h refl

exponent_tail : (text : List ℕ) → is_exponent text ≡ true → is_float_tail text ≡ true
exponent_tail text h = rw h (or-true (is_fraction text))

both_tail : (text : List ℕ) → followed_by is_fraction is_exponent text ≡ true → is_float_tail text ≡ true
both_tail text h = rw h (go (is_fraction text) (is_exponent text))
  where
    go : (a b : Bool) → (a || (b || true)) ≡ true
    go true b = refl
    go false true = refl
    go false false = refl

no_fraction : (text : List ℕ) → text ≡ [] → Fraction text → ⊥
no_fraction text e f = let long : length text ≡ suc (length f.digits) = ap (λ (xs : List ℕ). length xs) f.is ∙ omega arith in let none : length text ≡ 0 = ap (λ (xs : List ℕ). length xs) e in omega (arith, long, none)

no_exponent : (text : List ℕ) → text ≡ [] → Exponent text → ⊥
no_exponent text e f = let long : length text ≡ suc (length (f.sign ++ f.digits)) = ap (λ (xs : List ℕ). length xs) f.is ∙ omega arith in let none : length text ≡ 0 = ap (λ (xs : List ℕ). length xs) e in omega (arith, long, none)

tail_true : (f e : List ℕ) → (f ≡ []) ⊎ Fraction f → (e ≡ []) ⊎ Exponent e → Fraction f ⊎ Exponent e → is_float_tail (f ++ e) ≡ true
tail_true f e (inr a) (inr b) some = both_tail (f ++ e) (followed is_fraction is_exponent f e (fraction_true f a) (exponent_true e b))
tail_true f e (inr a) (inl none) some = ap (λ (xs : List ℕ). is_float_tail (f ++ xs)) none ∙ ap is_float_tail (append-nil f) ∙ fraction_tail f (fraction_true f a)
tail_true f e (inl none) (inr b) some = ap (λ (xs : List ℕ). is_float_tail (xs ++ e)) none ∙ exponent_tail e (exponent_true e b)
tail_true f e (inl none) (inl nil) (inl a) = absurd (no_fraction f none a)
tail_true f e (inl none) (inl nil) (inr b) = absurd (no_exponent e nil b)

regroup : (a b c d : List ℕ) → ((a ++ b) ++ c) ++ d ≡ a ++ (b ++ (c ++ d))
regroup a b c d = simp append_assoc

pub float_value : (text : List ℕ) → NumberText k.Float text → IsFloatValue text
float_value text n =
    let tail : is_float_tail (n.fraction ++ n.exponent) ≡ true = tail_true n.fraction n.exponent n.fractions n.exponents (n.float refl) in
    ap is_float_value (n.is ∙ regroup n.sign n.whole n.fraction n.exponent)
    ∙ ap (followed_by is_natural is_float_tail) (unsigned n.sign n.whole (n.fraction ++ n.exponent) n.signs n.natural.digits)
    ∙ followed is_natural is_float_tail n.whole (n.fraction ++ n.exponent) (natural_true n.whole n.natural) tail
