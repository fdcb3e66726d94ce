-- Texts and their tokens, evaluated.
use Rattle.std.proofs.Common.{◌≡◌, ℕ, List, [], ◌∷◌, ◌++◌, codes, Some, None, refl}
use Rattle.read_tokens.specs.Bytes.{run_len}
use Rattle.read_tokens.specs.Numbers.{whole_len, digits_after, fraction_len, exponent_len, number_at}
use Rattle.read_tokens.specs.Strings.{unicode_at, escape_at, part_len, quoted_len}
use Rattle.read_tokens.specs.Blocks.{block_character_len, block_len}
use Rattle.read_tokens.specs.Tokens.{ignored_at, string_at, token_at}
use Rattle.read_tokens.specs.Terminals.{words}
use Rattle.read_tokens.specs.Input.{Token, Ended, NoTokenAt}
use Rattle.read_tokens.specs.Lex.{piece_at}
use Rattle.read_tokens.specs.Cursor.{Rest, rest_from}
use Rattle.read_tokens.specs.declared.token.TokenKind.TheVariants as k
use Rattle.read_tokens.specs.declared.terminal.Terminal.{Terminal}
use Rattle.read_tokens.specs.declared.terminal.Terminal.TheVariants as t

abbrev token : Terminal → List ℕ → ℕ → Token
token kind text offset = record { kind = kind; text = text; offset = offset }

abbrev tokens_of : List ℕ → Rest
tokens_of text = rest_from 0 0 text

several : tokens_of (codes "a:-0 1.5e3 \"\"...") ≡ record {
  tokens = token t.Name (codes "a") 0 ∷ token t.Colon (codes ":") 1 ∷ token t.Int (codes "-0") 2 ∷ token t.Float (codes "1.5e3") 5 ∷ token t.String (codes "\"\"") 11 ∷ token t.Spread (codes "...") 13 ∷ [];
  ending = Ended 16;
}
unfolding rest_from piece_at run_len ignored_at token_at number_at whole_len digits_after fraction_len exponent_len string_at quoted_len part_len block_len words
several = refl

-- keywords, and the name of a location
keywords : tokens_of (codes "type on, FIELD #x") ≡ record { tokens = token t.Type (codes "type") 0 ∷ token t.On (codes "on") 5 ∷ token t.Location (codes "FIELD") 9 ∷ []; ending = Ended 17 }
unfolding rest_from piece_at run_len ignored_at token_at words
keywords = refl

-- a comment ends where a carriage return ends the line; a byte order mark is ignored
comment_and_mark : tokens_of (codes "#x" ++ 13 ∷ 239 ∷ 187 ∷ 191 ∷ codes "}") ≡ record { tokens = token t.CloseBrace (codes "}") 6 ∷ []; ending = Ended 7 }
unfolding rest_from piece_at run_len ignored_at token_at
comment_and_mark = refl

stuck : tokens_of (codes "{ ?") ≡ record { tokens = token t.OpenBrace (codes "{") 0 ∷ []; ending = NoTokenAt 2 }
unfolding rest_from piece_at run_len ignored_at token_at
stuck = refl

-- a character past ASCII begins no token, and may follow a number
letter_after : tokens_of (49 ∷ 195 ∷ 169 ∷ []) ≡ record { tokens = token t.Int (49 ∷ []) 0 ∷ []; ending = NoTokenAt 1 }
unfolding rest_from piece_at run_len ignored_at token_at number_at whole_len digits_after fraction_len exponent_len
letter_after = refl

-- ---- no tokens

leading_zero : token_at (codes "01") ≡ None
unfolding token_at number_at whole_len digits_after fraction_len exponent_len
leading_zero = refl

no_fraction : token_at (codes "1.") ≡ None
unfolding token_at number_at whole_len digits_after fraction_len exponent_len
no_fraction = refl

number_and_letter : token_at (codes "1a") ≡ None
unfolding token_at number_at whole_len digits_after fraction_len exponent_len
number_and_letter = refl

two_dots : token_at (codes "..") ≡ None
unfolding token_at
two_dots = refl

four_quotes : token_at (34 ∷ 34 ∷ 34 ∷ 34 ∷ []) ≡ None
unfolding token_at string_at block_len block_character_len run_len
four_quotes = refl

surrogate : token_at (codes "\"\\ud83d\"") ≡ None
unfolding token_at string_at quoted_len part_len run_len escape_at unicode_at
surrogate = refl

surrogate_pair : token_at (codes "\"\\ud83d\\ude00\"") ≡ None
unfolding token_at string_at quoted_len part_len run_len escape_at unicode_at
surrogate_pair = refl

line_in_string : token_at (34 ∷ 10 ∷ 34 ∷ []) ≡ None
unfolding token_at string_at quoted_len part_len run_len
line_in_string = refl

-- ---- strings

two_strings : token_at (codes "\"a\"\"b\"") ≡ Some (k.String, 3)
unfolding token_at string_at quoted_len part_len run_len
two_strings = refl

escaped_quotes_inside : token_at (codes "\"\"\"\\\"\"\"\"\"\"") ≡ Some (k.BlockString, 10)
unfolding token_at string_at block_len block_character_len run_len
escaped_quotes_inside = refl
