-- The Int and Float tokens, and the numbers that they stand for (GraphQL, October 2021, sections 2.9.1 and 2.9.2).
use Rattle.std.specs.Prelude.{ℕ, ℤ, List, [], ◌∷◌, Bool, true, false, ◌==◌, ◌||◌, ◌&&◌, IsTrue, cond, not}
use Rattle.std.specs.List.{list_all}
use Rattle.std.specs.Char.{is_ascii_digit}
use Rattle.std.specs.Str.Parse.{signed_digits_value}

-- one Digit or more
abbrev pub is_digits : List ℕ → Bool
is_digits [] = false
is_digits (d ∷ ds) = list_all is_ascii_digit (d ∷ ds)

-- whether the list is empty
abbrev pub is_nothing : List ℕ → Bool
is_nothing [] = true
is_nothing (c ∷ cs) = false

-- whether the text is a `0` with something after it
abbrev pub has_leading_zero : List ℕ → Bool
has_leading_zero [] = false
has_leading_zero (d ∷ ds) = (d == 48) && not (is_nothing ds)

-- an IntegerPart without its sign: Digits that have no leading zero
abbrev pub is_natural : List ℕ → Bool
is_natural text = is_digits text && not (has_leading_zero text)

-- the text without the sign `-`, if that comes first
abbrev pub without_minus : List ℕ → List ℕ
without_minus [] = []
without_minus (c ∷ cs) = cond (c == 45) cs (c ∷ cs)

-- the text without the sign `+` or `-`, if one comes first
abbrev pub without_sign : List ℕ → List ℕ
without_sign [] = []
without_sign (c ∷ cs) = cond (c == 43 || c == 45) cs (c ∷ cs)

-- IntValue: an IntegerPart (section 2.9.1)
abbrev pub is_int_value : List ℕ → Bool
is_int_value text = is_natural (without_minus text)

-- FractionalPart: `.` and Digits
abbrev pub is_fraction : List ℕ → Bool
is_fraction [] = false
is_fraction (c ∷ cs) = (c == 46) && is_digits cs

-- ExponentPart: `e` or `E`, an optional sign, and Digits
abbrev pub is_exponent : List ℕ → Bool
is_exponent [] = false
is_exponent (c ∷ cs) = (c == 101 || c == 69) && is_digits (without_sign cs)

-- the text is made of two parts, of which the first passes p and the second q
abbrev pub followed_by : (List ℕ → Bool) → (List ℕ → Bool) → List ℕ → Bool
followed_by p q [] = p [] && q []
followed_by p q (c ∷ cs) = (p [] && q (c ∷ cs)) || followed_by (λ ds. p (c ∷ ds)) q cs

-- what follows the IntegerPart of a FloatValue: a FractionalPart, an ExponentPart, or both
abbrev pub is_float_tail : List ℕ → Bool
is_float_tail text = is_fraction text || (is_exponent text || followed_by is_fraction is_exponent text)

-- FloatValue (section 2.9.2)
abbrev pub is_float_value : List ℕ → Bool
is_float_value text = followed_by is_natural is_float_tail (without_minus text)

-- the text is one Int token, one Float token
abbrev pub IsIntValue : List ℕ → Type 0
IsIntValue text = IsTrue (is_int_value text)

abbrev pub IsFloatValue : List ℕ → Type 0
IsFloatValue text = IsTrue (is_float_value text)

-- the number that an Int token stands for
abbrev pub integer_value : List ℕ → ℤ
integer_value text = signed_digits_value 10 text
