-- How far an Int or a Float token reaches (GraphQL, October 2021, sections 2.9.1 and 2.9.2), in bytes.
use Rattle.std.specs.Prelude.{ℕ, ◌+◌, Bool, ◌||◌, ◌==◌, if◌then◌else◌, List, drop, Option, Some, None}
use Rattle.std.specs.List.{prefix_len}
use Rattle.std.specs.Char.{is_ascii_digit}
use Rattle.graphql_names.specs.NameSyntax.{is_name_continue}
use Rattle.read_tokens.specs.Bytes.{begins_by, ◌>>=◌}
use Rattle.read_tokens.specs.declared.token.TokenKind.{TokenKind}
use Rattle.read_tokens.specs.declared.token.TokenKind.TheVariants as k

abbrev pub is_zero : ℕ → Bool
is_zero b = b == 48

abbrev pub is_point : ℕ → Bool
is_point b = b == 46

abbrev pub is_minus : ℕ → Bool
is_minus b = b == 45

-- the length of the NegativeSign, or 0
abbrev pub sign_len : List ℕ → ℕ
sign_len bytes = if begins_by is_minus bytes then 1 else 0

-- IntegerPart without its sign: `0`, or digits of which the first is not `0`
unfoldable pub whole_len : List ℕ → Option ℕ
whole_len bytes =
    if begins_by is_zero bytes then Some 1
    else (if begins_by is_ascii_digit bytes then Some (prefix_len is_ascii_digit bytes) else None)

-- the length of this many bytes and one Digit or more after them
unfoldable pub digits_after : ℕ → List ℕ → Option ℕ
digits_after n bytes =
    if begins_by is_ascii_digit (drop n bytes) then Some (n + prefix_len is_ascii_digit (drop n bytes)) else None

-- FractionalPart: `.` and digits; or nothing
unfoldable pub fraction_len : List ℕ → Option ℕ
fraction_len bytes = if begins_by is_point bytes then digits_after 1 bytes else Some 0

-- ExponentIndicator
abbrev pub is_exponent_mark : ℕ → Bool
is_exponent_mark b = b == 69 || b == 101

abbrev pub is_sign : ℕ → Bool
is_sign b = b == 43 || b == 45

-- ExponentPart: an indicator, an optional sign, and digits; or nothing
unfoldable pub exponent_len : List ℕ → Option ℕ
exponent_len bytes =
    if begins_by is_exponent_mark bytes then digits_after (if begins_by is_sign (drop 1 bytes) then 2 else 1) bytes else Some 0

-- what may not follow a number: a digit, `.`, a letter or `_`
abbrev pub goes_on : ℕ → Bool
goes_on b = is_name_continue b || b == 46

-- the kind of a number, from the length of its integer part and its whole length
abbrev pub number_kind : ℕ → ℕ → TokenKind
number_kind whole all = if whole == all then k.Int else k.Float

-- A number: an integer part, an optional fraction and an optional exponent, not followed by a byte that may not follow a number.
unfoldable pub number_at : List ℕ → Option (TokenKind × ℕ)
number_at bytes = do
  digits ← whole_len (drop (sign_len bytes) bytes)
  fraction ← fraction_len (drop (sign_len bytes + digits) bytes)
  exponent ← exponent_len (drop (sign_len bytes + digits + fraction) bytes)
  if begins_by goes_on (drop (sign_len bytes + digits + fraction + exponent) bytes) then None else Some (number_kind (sign_len bytes + digits) (sign_len bytes + digits + fraction + exponent), sign_len bytes + digits + fraction + exponent)
