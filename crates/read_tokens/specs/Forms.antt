-- Private: leads to `IsName`, `string_value` and `block_value`. The form of a token's text, by its terminal symbol.
use Rattle.std.specs.Prelude.{◌≡◌, ◌≤◌, ◌<◌, ℕ, ◌+◌, ◌-◌, Bool, true, false, List, [], ◌∷◌, ◌++◌, length, take, slice_index, Option, Some, None}
use Rattle.graphql_names.specs.NameSyntax.{IsName}
use Rattle.read_tokens.specs.Blocks.{quotes}
use Rattle.read_tokens.specs.Tokens.{token_at}
use Rattle.read_tokens.specs.Terminals.{terminal_of}
use Rattle.read_tokens.specs.declared.token.TokenKind.{TokenKind}
use Rattle.read_tokens.specs.declared.terminal.Terminal.{Terminal}
use Rattle.read_tokens.specs.declared.terminal.Terminal.TheVariants.{Bang, Dollar, Ampersand, OpenParen, CloseParen, Spread, Colon, Equals, At, OpenBracket, CloseBracket, OpenBrace, Pipe, CloseBrace, Int, Float, String, BlockString}

-- whether the symbol is that of a Name token: `Name`, a keyword or `Location`
abbrev pub is_word : Terminal → Bool
is_word Bang = false
is_word Dollar = false
is_word Ampersand = false
is_word OpenParen = false
is_word CloseParen = false
is_word Spread = false
is_word Colon = false
is_word Equals = false
is_word At = false
is_word OpenBracket = false
is_word CloseBracket = false
is_word OpenBrace = false
is_word Pipe = false
is_word CloseBrace = false
is_word Int = false
is_word Float = false
is_word String = false
is_word BlockString = false
is_word _ = true

-- The text is a mark, something, and the mark again.
abbrev pub Enclosed : List ℕ → List ℕ → Type 0
Enclosed mark text = (content : List ℕ) × (text ≡ mark ++ (content ++ mark))

-- The text is a token of this symbol that the rules find at the front of some bytes.
pub record Taken (symbol : Terminal) (text : List ℕ) : Type 0 where
  pub bytes : List ℕ
  pub kind : TokenKind
  pub found : token_at bytes ≡ Some (kind, length text)
  pub front : text ≡ take (length text) bytes
  pub is : symbol ≡ terminal_of kind text

-- The text of a token of this symbol: a word is a Name, and a string is enclosed in its marks.
pub record Form (symbol : Terminal) (text : List ℕ) : Type 0 where
  pub name : is_word symbol ≡ true → IsName text
  pub string : symbol ≡ String → Enclosed (34 ∷ []) text
  pub block : symbol ≡ BlockString → Enclosed quotes text

-- if there is a symbol, the text has its form, and the rules find it as a token of that symbol
abbrev pub FormOf : Option Terminal → List ℕ → Type 0
FormOf None text = Unit {0}
FormOf (Some symbol) text = Form symbol text × Taken symbol text

-- the text has room for marks of n bytes at both ends, whose inner bytes are ASCII; for the private functions that remove them
pub record Marked (n : ℕ) (text : List ℕ) : Type 0 where
  pub some : 0 < n
  pub twice : n + n ≤ length text
  pub open_mark : slice_index text (n - 1) < 128
  pub close_mark : slice_index text (length text - n) < 128
