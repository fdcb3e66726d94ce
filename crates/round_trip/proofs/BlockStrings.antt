-- What is printed as a block string is read as it was.
use Rattle.std.proofs.Common.{◌≡◌, ◌⊎◌, ℕ, Bool, true, false, not, ◌&&◌, List, [], ◌∷◌, ◌++◌, length, Some, refl, sym, ap, ◌∙◌, subst, arith, append-nil, append_assoc}
use Rattle.std.specs.List.{list_any}
use Rattle.tree_literals.specs.LineLayout.{line_start}
use Rattle.tree_literals.specs.StringLayout.{text_lines, has_byte, first_is_blank, last_is_blank, is_at_margin, can_be_block_string, block_text}
use Rattle.read_tokens.specs.Bytes.{run_len, replaced, between}
use Rattle.read_tokens.specs.Blocks.{quotes, block_character_len, block_character_at, block_len, raw_value, without_indent, without_blank_front, without_blank_back, formatted, block_string_value, block_value}
use Rattle.read_tokens.specs.Tokens.{string_at, token_at, of_kind}
use Rattle.read_tokens.specs.declared.token.TokenKind.TheVariants as k
use Rattle.read_tokens.proofs.Bytes.{run_end}
use Rattle.round_trip.specs.Readings.{IsToken, IsWhite}
use Rattle.round_trip.proofs.Between.{closed, within}
use Rattle.round_trip.proofs.Written.{written, indented, raw_of, block_is, white_start, written_reads}
use Rattle.round_trip.proofs.RawLines.{lines_in_line, white_in_line, raw_lines}
use Rattle.round_trip.proofs.Exact.{Either, value_can_be}
use Rattle.round_trip.proofs.Indents.{indent_removed, ends_removed, formatted_is}

-- ---- the token

ends_at_marks : (following : List ℕ) → run_len block_character_len 0 (quotes ++ following) ≡ 0
unfolding block_character_len
ends_at_marks following = run_end block_character_len (quotes ++ following) refl

string_found : (bytes : List ℕ) → token_at (quotes ++ bytes) ≡ of_kind k.BlockString (block_len (quotes ++ bytes))
unfolding token_at string_at
string_found bytes = refl

inside_length : (prefix : List ℕ) (level : ℕ) (lines : List (List ℕ)) (following : List ℕ) → IsWhite prefix → run_len block_character_len 0 (written prefix level lines ++ (quotes ++ following)) ≡ length (written prefix level lines)
inside_length prefix level lines following white =
    let all = (written_reads prefix level lines (quotes ++ following) (white_start prefix level white)).passed in
    let end = ends_at_marks following in
    omega arith

block_reach : (text following : List ℕ) → run_len block_character_len 0 (text ++ (quotes ++ following)) ≡ length text → block_len (quotes ++ (text ++ (quotes ++ following))) ≡ Some (length (quotes ++ (text ++ quotes)))
unfolding block_len
block_reach text following run = closed quotes text following (run_len block_character_len 0 (text ++ (quotes ++ following))) run

-- What is printed as a block string is one BlockString token, whatever follows it.
pub block_is_token : (prefix : List ℕ) (level : ℕ) (text following : List ℕ) → IsWhite prefix → IsToken k.BlockString (block_text prefix level text) following
block_is_token prefix level text following white =
    let inside = written prefix level (text_lines text) in
    let is : block_text prefix level text ≡ quotes ++ (inside ++ quotes) = block_is prefix level text in
    ap (λ (t : List ℕ). token_at (t ++ following)) is
    ∙ ap (λ (t : List ℕ). token_at (quotes ++ t)) (append_assoc inside quotes following)
    ∙ string_found (inside ++ (quotes ++ following))
    ∙ ap (of_kind k.BlockString) (block_reach inside following (inside_length prefix level (text_lines text) following white))
    ∙ ap (λ (t : List ℕ). Some (k.BlockString, length t)) (sym is)

-- ---- the value

nothing : replaced block_character_at 0 [] ≡ []
unfolding replaced
nothing = refl

raw_is : (prefix : List ℕ) (level : ℕ) (text : List ℕ) → IsWhite prefix → raw_value (block_text prefix level text) ≡ raw_of (line_start prefix level) (text_lines text)
unfolding raw_value
raw_is prefix level text white =
    let inside = written prefix level (text_lines text) in
    let raw = raw_of (line_start prefix level) (text_lines text) in
    ap (λ (t : List ℕ). replaced block_character_at 0 (between 3 t)) (block_is prefix level text)
    ∙ ap (replaced block_character_at 0) (within quotes inside ∙ sym (append-nil inside))
    ∙ (written_reads prefix level (text_lines text) [] (white_start prefix level white)).stands
    ∙ ap (λ (v : List ℕ). raw ++ v) nothing
    ∙ append-nil raw

record Lines (text : List ℕ) : Type 0 where
  no_return : has_byte 13 text ≡ false
  first : first_is_blank (text_lines text) ≡ false
  last : last_is_blank (text_lines text) ≡ false
  margin : list_any is_at_margin (text_lines text) ≡ true

lines_from : (text : List ℕ) → can_be_block_string text ≡ true → Lines text
lines_from text h = go (has_byte 13 text) (first_is_blank (text_lines text)) (last_is_blank (text_lines text)) (list_any is_at_margin (text_lines text)) refl refl refl refl h
  where
    go : (r f l m : Bool) → has_byte 13 text ≡ r → first_is_blank (text_lines text) ≡ f → last_is_blank (text_lines text) ≡ l → list_any is_at_margin (text_lines text) ≡ m
        → (not r && not f && not l && m) ≡ true → Lines text
    go false false false true er ef el em h = record { no_return = er; first = ef; last = el; margin = em }
    go false false false false er ef el em h = absurd cc
    go false false true m er ef el em h = absurd cc
    go false true l m er ef el em h = absurd cc
    go true f l m er ef el em h = absurd cc

value_of_raw : (start text : List ℕ) → IsWhite start → Lines text → block_string_value (raw_of start (text_lines text)) ≡ text
unfolding block_string_value
value_of_raw start text white h =
    ap (λ (ls : List (List ℕ)). formatted (without_blank_back (without_blank_front (without_indent ls)))) (raw_lines start (text_lines text) (white_in_line start white) (lines_in_line text h.no_return))
    ∙ ap (λ (ls : List (List ℕ)). formatted (without_blank_back (without_blank_front ls))) (indent_removed start (text_lines text) white h.margin)
    ∙ ap formatted (ends_removed (text_lines text) h.first h.last)
    ∙ formatted_is text

-- What is printed as a block string stands for the text, where that can be one.
pub block_value_is : (prefix : List ℕ) (level : ℕ) (text : List ℕ) → IsWhite prefix → can_be_block_string text ≡ true → block_value (block_text prefix level text) ≡ text
unfolding block_value
block_value_is prefix level text white h =
    ap block_string_value (raw_is prefix level text white)
    ∙ value_of_raw (line_start prefix level) text (white_start prefix level white) (lines_from text h)

raw_begins : (start : List ℕ) (lines : List (List ℕ)) → (rest : List ℕ) × (raw_of start lines ≡ 10 ∷ rest)
raw_begins start [] = (start, refl)
raw_begins start (line ∷ lines) = (indented start line ++ raw_of start lines, refl)

-- What is printed as a block string stands for no other text, but for the empty one.
pub block_exact : (prefix : List ℕ) (level : ℕ) (text : List ℕ) → IsWhite prefix → block_value (block_text prefix level text) ≡ text → (text ≡ []) ⊎ (can_be_block_string text ≡ true)
unfolding block_value
block_exact prefix level text white same =
    let begins = raw_begins (line_start prefix level) (text_lines text) in
    let value : block_string_value (10 ∷ begins.0) ≡ text = ap block_string_value (sym (raw_is prefix level text white ∙ begins.1)) ∙ same in
    subst Either value (value_can_be begins.0)
