-- The input of a parser.
use Rattle.std.specs.Prelude.{ℕ, ◌+◌, List, [], ◌∷◌, length, Option, Some, None}
use Rattle.read_tokens.specs.declared.terminal.Terminal.{Terminal}

-- a token of a text: its symbol, its bytes, and where it begins
pub record Token : Type 0 where
  pub kind : Terminal
  pub text : List ℕ
  pub offset : ℕ

-- how the tokens of a text end: with the text, or where no token starts
pub data Ending : Type 0 where
  Ended : (offset : ℕ) → Ending
  NoTokenAt : (offset : ℕ) → Ending

-- the tokens that are left, where the last one that was read ends, and how the text ends
pub record Input : Type 0 where
  pub last : ℕ
  pub ahead : List Token
  pub ending : Ending

abbrev pub end_of : Token → ℕ
end_of t = t.offset + length t.text

-- the symbol of the next token
abbrev pub next_of : List Token → Option Terminal
next_of [] = None
next_of (t ∷ ts) = Some t.kind

abbrev pub next : Input → Option Terminal
next i = next_of i.ahead

-- the input after the token `t`, with the tokens `ts` ahead
abbrev pub past : Input → Token → List Token → Input
past i t ts = record { last = end_of t; ahead = ts; ending = i.ending }
