-- A printed string as a piece of a text, for the laws of longer texts.
use Rattle.std.proofs.Common.{◌≡◌, ℕ, Bool, true, false, cond, ◌&&◌, ◌==◌, List, [], ◌∷◌, ◌++◌, length, take, Some, None, refl, sym, ap, ◌∙◌, eqb-true}
use Rattle.std.proofs.lemmas.Bool.{and_parts}
use Rattle.std.proofs.lemmas.List.{drop_at, take_at}
use Rattle.tree_literals.specs.Joined.{joined}
use Rattle.tree_literals.specs.LineLayout.{Prefix}
use Rattle.tree_literals.specs.StringLayout.{has_byte, can_be_block_string, quoted_text, block_text, description_string}
use Rattle.read_tokens.specs.Bytes.{begins_with}
use Rattle.read_tokens.specs.Tokens.{ignored_at, token_at}
use Rattle.read_tokens.specs.Terminals.{terminal_of}
use Rattle.read_tokens.specs.Lex.{Piece, piece_of, piece_at, LexesFront}
use Rattle.read_tokens.specs.declared.token.TokenKind.{TokenKind}
use Rattle.round_trip.specs.Readings.{IsToken}

-- a quotation mark begins it
abbrev pub BeginsMarked : List ℕ → Type 0
BeginsMarked text = begins_with (34 ∷ []) text ≡ true

pub quoted_begins : (text : List ℕ) → BeginsMarked (quoted_text text)
unfolding joined
quoted_begins text = refl

pub block_begins : (prefix : List ℕ) (level : ℕ) (text : List ℕ) → BeginsMarked (block_text prefix level text)
unfolding joined
block_begins prefix level text = refl

pub description_begins : (prefix : Prefix) (level : ℕ) (text : List ℕ) → BeginsMarked (description_string prefix level text)
description_begins None level text = quoted_begins text
description_begins (Some prefix) level text = go (has_byte 10 text && can_be_block_string text)
  where
    go : (t : Bool) → BeginsMarked (cond t (block_text prefix level text) (quoted_text text))
    go true = block_begins prefix level text
    go false = quoted_begins text

not_ignored : (text following : List ℕ) → BeginsMarked text → ignored_at (text ++ following) ≡ None
unfolding ignored_at
not_ignored [] following h = absurd cc
not_ignored (b ∷ text) following h =
    let is : b ≡ 34 = eqb-true b 34 (and_parts (b == 34) true h).0 in
    rw is refl

abbrev string_piece : TokenKind → List ℕ → Piece
string_piece kind text = record { kind = Some kind; length = length text }

-- a string that is a token is a piece of the text
pub piece_is : (kind : TokenKind) (text following : List ℕ) → BeginsMarked text → IsToken kind text following → piece_at (text ++ following) ≡ Some (record { kind = Some kind; length = length text })
unfolding piece_at
piece_is kind text following begins token =
    ap (λ o. piece_of o (token_at (text ++ following))) (not_ignored text following begins)
    ∙ ap (piece_of None) token

-- and its token is the first of the text, before what follows it
pub string_lexes : (kind : TokenKind) (text following : List ℕ) → BeginsMarked text → IsToken kind text following → LexesFront (text ++ following) (record { kind = terminal_of kind text; text = text; offset = 0 } ∷ []) following
string_lexes kind text following begins token = record {
  pieces = string_piece kind text ∷ [];
  are = (piece_is kind text following begins token, drop_at text following (length text) refl);
  found =
      let same : text ≡ take (length text) (text ++ following) = sym (take_at text following (length text) refl) in
      ap (λ (t : List ℕ). record { kind = terminal_of kind t; text = t; offset = 0 } ∷ []) same;
}
