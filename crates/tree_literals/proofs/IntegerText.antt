-- What an integer's text stands for, and the text of a number.
use Rattle.std.proofs.Common.{◌≡◌, ℕ, ◌+◌, ◌/◌, ◌%◌, ◌^◌, ◌<◌, ◌≤◌, suc, Bool, true, false, ◌&&◌, cond, not, List, [], ◌∷◌, ◌++◌, refl, ap, sym, subst, ◌∙◌, drop, ◌==◌, arith, ℤ, pos, negsuc, neg_ℤ, lit<, FitsSigned, w32}
use Rattle.std.specs.List.{list_all}
use Rattle.std.specs.Char.{is_ascii_digit, digit_value}
use Rattle.std.specs.Fmt.{decimal, signed_decimal}
use Rattle.std.specs.Str.Parse.{IsNumeral, AllDigits, digits_value, signed_digits_value, starts_with_minus, without_leading_sign}
use Rattle.std.proofs.lemmas.Fmt.{decimal_is_IsNumeral, decimal_by_steps, decimal_digit}
use lib.Signed.{mag}
use Prim.Native.Nat.{zero}
use Rattle.std.proofs.lemmas.List.Folds.{list_all-append}
use Rattle.std.proofs.lemmas.Bool.Decides.{nat_tests}
use Rattle.tree_literals.specs.NumberSyntax.{is_digits, is_nothing, has_leading_zero, is_natural, without_minus, IsIntValue, integer_value}
use Rattle.tree_literals.proofs.NumberLemmas.{not_digit}

and-left : (a b : Bool) → (a && b) ≡ true → a ≡ true
and-left true b h = refl
and-left false b h = h

and-right : (a b : Bool) → (a && b) ≡ true → b ≡ true
and-right true b h = h
and-right false b h = cc

-- a digit's value
digit_value-digit : (c : ℕ) → is_ascii_digit c ≡ true → digit_value c < 10
digit_value-digit c h = grind (arith, nat_tests)

all_digits : (ds : List ℕ) → list_all is_ascii_digit ds ≡ true → AllDigits 10 ds
all_digits [] h = tt
all_digits (d ∷ ds) h = (digit_value-digit d (and-left (is_ascii_digit d) (list_all is_ascii_digit ds) h), all_digits ds (and-right (is_ascii_digit d) (list_all is_ascii_digit ds) h))

numeral-digits : (ds : List ℕ) → is_digits ds ≡ true → IsNumeral 10 ds
numeral-digits [] h = cc
numeral-digits (d ∷ ds) h = (omega arith, all_digits (d ∷ ds) h)

first_digit : (d : ℕ) (ds : List ℕ) → is_digits (d ∷ ds) ≡ true → is_ascii_digit d ≡ true
first_digit d ds h = and-left (is_ascii_digit d) (list_all is_ascii_digit ds) h

-- digits begin with no sign
minus-digits : (ds : List ℕ) → is_digits ds ≡ true → starts_with_minus ds ≡ false
minus-digits [] h = cc
minus-digits (d ∷ ds) h = not_digit 45 d refl (first_digit d ds h)

sign-digits : (ds : List ℕ) → is_digits ds ≡ true → without_leading_sign ds ≡ ds
sign-digits [] h = cc
sign-digits (d ∷ ds) h =
    ap (λ b. cond b (drop 1 (d ∷ ds)) (drop (cond (d == 43) 1 0) (d ∷ ds))) (not_digit 45 d refl (first_digit d ds h))
    ∙ ap (λ b. drop (cond b 1 0) (d ∷ ds)) (not_digit 43 d refl (first_digit d ds h))

without_minus-digits : (ds : List ℕ) → is_digits ds ≡ true → without_minus ds ≡ ds
without_minus-digits [] h = cc
without_minus-digits (d ∷ ds) h = ap (λ b. cond b ds (d ∷ ds)) (not_digit 45 d refl (first_digit d ds h))

-- an Int token is a numeral after its sign
pub numeral-int : (text : List ℕ) → IsIntValue text → IsNumeral 10 (without_leading_sign text)
numeral-int [] h = cc
numeral-int (c ∷ cs) h = by (c == 45) refl
  where
    digits : (ds : List ℕ) → is_natural ds ≡ true → is_digits ds ≡ true
    digits ds = and-left (is_digits ds) (not (has_leading_zero ds))

    by : (b : Bool) → (c == 45) ≡ b → IsNumeral 10 (without_leading_sign (c ∷ cs))
    by true e =
        let following : is_natural cs ≡ true = ap (λ b. is_natural (cond b cs (c ∷ cs))) (sym e) ∙ h in
        subst (IsNumeral 10) (sym (ap (λ b. cond b cs (drop (cond (c == 43) 1 0) (c ∷ cs))) e)) (numeral-digits cs (digits cs following))
    by false e =
        let whole : is_natural (c ∷ cs) ≡ true = ap (λ b. is_natural (cond b cs (c ∷ cs))) (sym e) ∙ h in
        subst (IsNumeral 10) (sym (sign-digits (c ∷ cs) (digits (c ∷ cs) whole))) (numeral-digits (c ∷ cs) (digits (c ∷ cs) whole))

-- digits of which the first is not 0
abbrev begins_above_zero : List ℕ → Bool
begins_above_zero [] = false
begins_above_zero (d ∷ ds) = not (d == 48)

abbrev IsText : ℕ → List ℕ → Type 0
IsText n ds = (is_digits ds ≡ true) × (0 < n → begins_above_zero ds ≡ true)

one_digit : (n : ℕ) → n < 10 → IsText n ((48 + n) ∷ [])
one_digit n h = (grind (arith, nat_tests), λ above. grind (arith, nat_tests))

glyph_digit : (n : ℕ) → is_ascii_digit (48 + n % 10) ≡ true
glyph_digit n = grind (arith, nat_tests)

more_digits : (n : ℕ) (ds : List ℕ) → 10 ≤ n → IsText (n / 10) ds → IsText n (ds ++ ((48 + n % 10) ∷ []))
more_digits n [] h t = cc
more_digits n (d ∷ ds) h t = (
  list_all-append is_ascii_digit (d ∷ ds) ((48 + n % 10) ∷ []) ∙ ap (λ b. b && (is_ascii_digit (48 + n % 10) && true)) t.0 ∙ ap (λ b. b && true) (glyph_digit n),
  λ above. t.1 (omega arith),
)

decimal_text : (n : ℕ) → n < 2 ^ 64 → IsText n (decimal n)
decimal_text = decimal_by_steps IsText one_digit more_digits

no_leading_zero : (ds : List ℕ) → begins_above_zero ds ≡ true → not (has_leading_zero ds) ≡ true
no_leading_zero [] h = refl
no_leading_zero (d ∷ ds) h = by (d == 48) h
  where
    by : (b : Bool) → not b ≡ true → not (b && not (is_nothing ds)) ≡ true
    by false h = refl
    by true h = cc

natural-decimal : (n : ℕ) → n < 2 ^ 64 → is_natural (decimal n) ≡ true
natural-decimal n h = by n refl
  where
    both : (a b : Bool) → a ≡ true → b ≡ true → (a && b) ≡ true
    both true b p q = q
    both false b p q = p

    by : (k : ℕ) → n ≡ k → is_natural (decimal n) ≡ true
    by zero e = subst (λ m. is_natural (decimal m) ≡ true) (sym e) (ap is_natural (decimal_digit 0 (lit< tt)))
    by (suc k) e = both _ _ (decimal_text n h).0 (no_leading_zero (decimal n) ((decimal_text n h).1 (omega arith)))

-- the text of a number is one Int token
pub int-signed_decimal : (z : ℤ) → mag z < 2 ^ 63 → IsIntValue (signed_decimal z)
int-signed_decimal (pos n) h =
    let small : n < 2 ^ 64 = omega arith in
    ap is_natural (without_minus-digits (decimal n) (decimal_text n small).0) ∙ natural-decimal n small
int-signed_decimal (negsuc n) h = natural-decimal (suc n) (omega arith)

-- and stands for the number
pub integer_value-signed_decimal : (z : ℤ) → mag z < 2 ^ 63 → integer_value (signed_decimal z) ≡ z
integer_value-signed_decimal (pos n) h =
    let small : n < 2 ^ 64 = omega arith in
    let digits : is_digits (decimal n) ≡ true = (decimal_text n small).0 in
    ap (λ b. cond b (neg_ℤ (pos (digits_value 10 (without_leading_sign (decimal n))))) (pos (digits_value 10 (without_leading_sign (decimal n))))) (minus-digits (decimal n) digits)
    ∙ ap (λ ds. pos (digits_value 10 ds)) (sign-digits (decimal n) digits)
    ∙ ap pos (decimal_is_IsNumeral n small).1
integer_value-signed_decimal (negsuc n) h = ap (λ m. neg_ℤ (pos m)) (decimal_is_IsNumeral (suc n) (omega arith)).1

-- the same of a text that is known to be the number's
pub int-text : (z : ℤ) (bs : List ℕ) → bs ≡ signed_decimal z → mag z < 2 ^ 63 → IsIntValue bs
int-text z bs e h = subst IsIntValue (sym e) (int-signed_decimal z h)

pub integer_value-text : (z : ℤ) (bs : List ℕ) → bs ≡ signed_decimal z → mag z < 2 ^ 63 → integer_value bs ≡ z
integer_value-text z bs e h = ap integer_value e ∙ integer_value-signed_decimal z h

-- an Int token of which `parse` makes no number does not fit
pub not-fits : (text : List ℕ) → IsIntValue text → ¬ (IsNumeral 10 (without_leading_sign text) × FitsSigned w32 (signed_digits_value 10 text)) → ¬ (FitsSigned w32 (integer_value text))
not-fits text valid none fits = none (numeral-int text valid, fits)

pub ruleset integer_text_rules = (int-text, integer_value-text, not-fits)
