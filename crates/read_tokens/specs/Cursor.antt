-- What a `TokenCursor` shows: the tokens of its text that are left.
use Rattle.std.specs.Prelude.{◌≡◌, ◌≤◌, ℕ, zero, suc, ◌+◌, ◌-◌, Bool, true, false, List, [], ◌∷◌, length, take, drop, Option, Some, None}
use Rattle.std.specs.Rc.{rc_str_bytes}
use Rattle.read_tokens.specs.Input.{Token, Ending, Ended, NoTokenAt, Input, past}
use Rattle.read_tokens.specs.Tokens.{ignored_at, token_at}
use Rattle.read_tokens.specs.Terminals.{terminal_of}
use Rattle.read_tokens.specs.Lex.{Piece, piece_at, with_token, Lex, LexesFront, NothingBegins}
use Rattle.read_tokens.specs.declared.token.TokenKind.{TokenKind}
use Rattle.read_tokens.specs.declared.terminal.Terminal.{Terminal}
use Rattle.read_tokens.specs.declared.token_cursor.TokenCursor.TheInside.{Inside}

-- tokens, and how the text ends after them
pub record Rest : Type 0 where
  pub tokens : List Token
  pub ending : Ending

-- the rest of a text, from the piece that begins it and the rest after that piece
abbrev pub rest_by : Option Piece → ℕ → List ℕ → (ℕ → Rest) → Rest
rest_by None at text following = record { tokens = []; ending = NoTokenAt at }
rest_by (Some piece) at text following = record {
  tokens = with_token piece.kind (take piece.length text) at (following piece.length).tokens;
  ending = (following piece.length).ending;
}

-- The tokens of a text that begins at an offset, and its ending. `left` counts the bytes that are left of a piece.
unfoldable pub rest_from : ℕ → ℕ → List ℕ → Rest
rest_from left at [] = record { tokens = []; ending = Ended at }
rest_from (suc left) at (b ∷ bytes) = rest_from left (at + 1) bytes
rest_from zero at (b ∷ bytes) = rest_by (piece_at (b ∷ bytes)) at (b ∷ bytes) (λ n. rest_from (n - 1) (at + 1) bytes)

-- the input of a parser that reads a text from an offset on
abbrev pub input_from : ℕ → ℕ → List ℕ → Input
input_from last at text = record { last = last; ahead = (rest_from 0 at (drop at text)).tokens; ending = (rest_from 0 at (drop at text)).ending }

abbrev pub with_terminal : Option (TokenKind × ℕ) → List ℕ → Option (Terminal × ℕ)
with_terminal None text = None
with_terminal (Some t) text = Some (terminal_of t.0 (take t.1 text), t.1)

-- the symbol of the token that begins a text, and its length
unfoldable pub symbol_at : List ℕ → Option (Terminal × ℕ)
symbol_at text = with_terminal (token_at text) text

abbrev pub source_of : Inside → Input
source_of t = input_from t.last t.at t.text.now

-- The bytes are those of the shared text. At the offset `at`, at most its end, nothing ignored begins, and `next` is the token
-- that begins there, if one does.
pub record IsReady (t : Inside) : Type 0 where
  pub shared : rc_str_bytes t.shared.now ≡ t.text.now
  pub within : t.at ≤ length t.text.now
  pub token : t.next ≡ symbol_at (drop t.at t.text.now)
  pub begins : ignored_at (drop t.at t.text.now) ≡ None

-- ---- what the calls of a `TokenCursor` answer

-- the text of the first token; empty if there is none
abbrev pub text_of : List Token → List ℕ
text_of [] = []
text_of (t ∷ ts) = t.text

-- the input after the first token; unchanged if no token is left
abbrev pub skipped_in : Input → List Token → Input
skipped_in i [] = i
skipped_in i (t ∷ ts) = past i t ts

abbrev pub skipped : Input → Input
skipped i = skipped_in i i.ahead

abbrev pub offset_of_ending : Ending → ℕ
offset_of_ending (Ended at) = at
offset_of_ending (NoTokenAt at) = at

-- where the first token begins; if there is none, where the ending is
abbrev pub offset_in : List Token → Ending → ℕ
offset_in [] ending = offset_of_ending ending
offset_in (t ∷ ts) ending = t.offset

abbrev pub next_offset : Input → ℕ
next_offset i = offset_in i.ahead i.ending

-- no token is left, because none starts where the text goes on
abbrev pub is_stuck_at : List Token → Ending → Bool
is_stuck_at [] (NoTokenAt at) = true
is_stuck_at [] (Ended at) = false
is_stuck_at (t ∷ ts) ending = false

abbrev pub is_stuck : Input → Bool
is_stuck i = is_stuck_at i.ahead i.ending

-- ---- whole texts

-- these are the tokens of the text, and this is how they end
abbrev pub EndsAs : List ℕ → List Token → Ending → Type 0
EndsAs text tokens (Ended at) = (at ≡ length text) × Lex text tokens
EndsAs text tokens (NoTokenAt at) = LexesFront text tokens (drop at text) × NothingBegins (drop at text)
