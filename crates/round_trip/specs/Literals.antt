-- Private: leads to `ReadsAlone`. Numbers and strings are read as they are printed: the base of the laws of values.
use Rattle.std.specs.Prelude.{◌≡◌, ℕ, true, List, ◌++◌, length, Some}
use Rattle.round_trip.specs.in_literals.StringLayout.{quoted_text, description_string}
use Rattle.round_trip.specs.in_literals.LineLayout.{Prefix}
use Rattle.read_operations.specs.in_literals.NumberSyntax.{is_int_value, is_float_value}
use Rattle.read_operations.specs.in_tokens.declared.terminal.Terminal.TheVariants as k
use Rattle.read_operations.specs.in_tokens.declared.token.TokenKind.TheVariants as t
use Rattle.read_operations.specs.in_tokens.declared.token.TokenKind.{TokenKind}
use Rattle.read_operations.specs.in_tokens.Input.{Token}
use Rattle.read_operations.specs.in_tokens.Terminals.{terminal_of}
use Rattle.read_operations.specs.in_grammar.Kinds.{is_string}
use Rattle.read_operations.specs.in_tokens.Tokens.{token_at}
use Rattle.round_trip.specs.Printed.{ends_word}
use Rattle.round_trip.specs.WellFormed.{is_white_prefix}

-- the text of a number is one token, if what follows it passes `ends_word`
pub record NumbersRead : Type 0 where
  pub int : (text following : List ℕ) → is_int_value text ≡ true → ends_word following ≡ true → token_at (text ++ following) ≡ Some (t.Int, length text)
  pub float : (text following : List ℕ) → is_float_value text ≡ true → ends_word following ≡ true → token_at (text ++ following) ≡ Some (t.Float, length text)

-- followed by `following`, the printed text is one string token, which stands for the text
pub record IsStringToken (string : Token → List ℕ) (printed text following : List ℕ) : Type 0 where
  pub kind : TokenKind
  pub is : is_string (terminal_of kind printed) ≡ true
  pub token : token_at (printed ++ following) ≡ Some (kind, length printed)
  pub stands_for : (token : Token) → token.kind ≡ terminal_of kind printed → token.text ≡ printed → string token ≡ text

-- a quoted text is one String token, and stands for the text; a description, under a prefix of white space, is one string token,
-- and stands for its text
pub record StringsRead (string : Token → List ℕ) : Type 0 where
  pub quoted : (text following : List ℕ) → ends_word following ≡ true → token_at (quoted_text text ++ following) ≡ Some (t.String, length (quoted_text text))
  pub stands_for : (text : List ℕ) (token : Token) → token.kind ≡ k.String → token.text ≡ quoted_text text → string token ≡ text
  pub described : (prefix : Prefix) (level : ℕ) (text following : List ℕ) → is_white_prefix prefix ≡ true → ends_word following ≡ true → IsStringToken string (description_string prefix level text) text following

pub record LiteralsRead (string : Token → List ℕ) : Type 0 where
  pub numbers : NumbersRead
  pub strings : StringsRead string
