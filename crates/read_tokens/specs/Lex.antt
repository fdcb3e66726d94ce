-- Texts and their tokens (GraphQL, October 2021, section 2).
use Rattle.std.specs.Prelude.{◌≡◌, ◌≢◌, ℕ, ◌+◌, ◌<◌, ⊤, List, [], ◌∷◌, length, take, drop, Option, Some, None}
use Rattle.std.specs.Str.{IsCharBoundary}
use Rattle.read_tokens.specs.Bytes.{run_len}
use Rattle.read_tokens.specs.Tokens.{ignored_at, token_at}
use Rattle.read_tokens.specs.Terminals.{terminal_of}
use Rattle.read_tokens.specs.Input.{Token}
use Rattle.read_tokens.specs.declared.token.TokenKind.{TokenKind}
use Rattle.read_tokens.specs.declared.token.NextToken.{NextToken}
use Rattle.read_tokens.specs.declared.token.NextToken.TheVariants as n

-- a piece of a text: the kind of its token, or `None` if it is ignored, and how many bytes it takes
pub record Piece : Type 0 where
  pub kind : Option TokenKind
  pub length : ℕ

abbrev pub piece_of : Option ℕ → Option (TokenKind × ℕ) → Option Piece
piece_of (Some n) token = Some (record { kind = None; length = n })
piece_of None None = None
piece_of None (Some t) = Some (record { kind = Some t.0; length = t.1 })

-- the piece that begins a text
unfoldable pub piece_at : List ℕ → Option Piece
piece_at text = piece_of (ignored_at text) (token_at text)

-- These pieces begin the text, one after the other, and `following` follows them.
abbrev pub ArePieces : List Piece → List ℕ → List ℕ → Type 0
ArePieces [] text following = text ≡ following
ArePieces (piece ∷ pieces) text following = (piece_at text ≡ Some piece) × ArePieces pieces (drop piece.length text) following

-- these tokens, with the token of a piece before them, if it has one: its text and its offset are given
abbrev pub with_token : Option TokenKind → List ℕ → ℕ → List Token → List Token
with_token None text at tokens = tokens
with_token (Some kind) text at tokens = record { kind = terminal_of kind text; text = text; offset = at } ∷ tokens

-- the tokens among the pieces of a text that begins at an offset
abbrev pub tokens_among : List Piece → List ℕ → ℕ → List Token
tokens_among [] text at = []
tokens_among (piece ∷ pieces) text at =
    with_token piece.kind (take piece.length text) at (tokens_among pieces (drop piece.length text) (at + piece.length))

-- The text before `following` consists of ignored pieces and tokens, each as long as its rule says, and these are the tokens.
pub record LexesFront (text : List ℕ) (tokens : List Token) (following : List ℕ) : Type 0 where
  pub pieces : List Piece
  pub are : ArePieces pieces text following
  pub found : tokens ≡ tokens_among pieces text 0

-- The whole text consists of ignored pieces and tokens, and these are the tokens.
abbrev pub Lex : List ℕ → List Token → Type 0
Lex text tokens = LexesFront text tokens []

-- there are some bytes, and neither a token nor an ignored piece begins them
pub record NothingBegins (bytes : List ℕ) : Type 0 where
  pub some : bytes ≢ []
  pub no_piece : piece_at bytes ≡ None

-- ---- the next token

-- where the ignored pieces end that begin at the offset and follow one another
abbrev pub past_ignored : List ℕ → ℕ → ℕ
past_ignored text offset = offset + run_len ignored_at 0 (drop offset text)

-- what starts at an offset of a text: this token, or nothing because the text ends there, or no token although it goes on
abbrev pub StartsAt : List ℕ → ℕ → NextToken → Type 0
StartsAt text at (n.Token t) = (token_at (drop at text) ≡ Some (t.kind, length t.text.now)) × (t.text.now ≡ take (length t.text.now) (drop at text)) × (t.offset ≡ at)
StartsAt text at n.End = drop at text ≡ []
StartsAt text at (n.NoToken place) = NothingBegins (drop at text) × (place ≡ at)

-- what a caller needs to go on: the token has some bytes, and the text may be cut after it; where no token starts, bytes are left
abbrev pub GoesOn : List ℕ → NextToken → Type 0
GoesOn text (n.Token t) = (0 < length t.text.now) × IsCharBoundary text (t.offset + length t.text.now)
GoesOn text n.End = ⊤
GoesOn text (n.NoToken place) = place < length text
