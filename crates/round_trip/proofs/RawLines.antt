-- The lines of the raw value of a printed block string.
use Rattle.std.proofs.Common.{◌≡◌, ℕ, Bool, true, false, cond, ◌||◌, ◌==◌, List, [], ◌∷◌, ◌++◌, map, refl, ap, ◌∙◌, arith}
use Rattle.std.specs.List.{list_all, onto_first}
use Rattle.std.proofs.lemmas.Bool.{and_parts, and_from, not-true}
use Rattle.std.proofs.lemmas.Grind.{common_steps}
use Rattle.tree_literals.specs.StringLayout.{text_lines, has_byte}
use Rattle.read_tokens.specs.Tokens.{is_in_line}
use Rattle.read_tokens.specs.Blocks.{ends_line, lines_of, is_white_space}
use Rattle.read_tokens.specs.Blocks as b
use Rattle.round_trip.proofs.Written.{all_both, indented, raw_of}

-- no byte of the line ends it
abbrev pub in_line : List ℕ → Bool
in_line line = list_all is_in_line line

-- ---- the lines of a text without a carriage return

onto_in_line : (x : ℕ) (lines : List (List ℕ)) → is_in_line x ≡ true → list_all in_line lines ≡ true → list_all in_line (onto_first x lines) ≡ true
onto_in_line x [] h all = rw h refl
onto_in_line x (line ∷ lines) h all = rw h all

neither : (s t : Bool) → (s || t) ≡ false → (s ≡ false) × (t ≡ false)
neither true t h = absurd cc
neither false t h = (refl, h)

pub lines_in_line : (text : List ℕ) → has_byte 13 text ≡ false → list_all in_line (text_lines text) ≡ true
lines_in_line [] h = refl
lines_in_line (x ∷ text) h = go (x == 10) refl (lines_in_line text parts.1)
  where
    parts : ((x == 13) ≡ false) × (has_byte 13 text ≡ false)
    parts = neither (x == 13) (has_byte 13 text) h

    go : (t : Bool) → (x == 10) ≡ t → list_all in_line (text_lines text) ≡ true → list_all in_line (cond t ([] ∷ text_lines text) (onto_first x (text_lines text))) ≡ true
    go true e more = more
    go false e more = onto_in_line x (text_lines text) (rw (e, parts.0) refl) more

-- white space ends no line
pub white_in_line : (line : List ℕ) → list_all is_white_space line ≡ true → in_line line ≡ true
white_in_line [] h = refl
white_in_line (x ∷ line) h =
    let parts = and_parts (is_white_space x) (list_all is_white_space line) h in
    and_from (is_in_line x) (in_line line) (white x parts.0) (white_in_line line parts.1)
  where
    white : (x : ℕ) → is_white_space x ≡ true → is_in_line x ≡ true
    white x h = grind (arith, common_steps)

-- ---- lines one by one

step : (x : ℕ) (bytes : List ℕ) → is_in_line x ≡ true → lines_of (x ∷ bytes) ≡ b.onto_first x (lines_of bytes)
unfolding lines_of
step x bytes h = go (x == 10) (x == 13) refl refl (not-true (x == 10 || x == 13) h)
  where
    go : (s t : Bool) → (x == 10) ≡ s → (x == 13) ≡ t → (s || t) ≡ false → lines_of (x ∷ bytes) ≡ b.onto_first x (lines_of bytes)
    go true t es et e = absurd cc
    go false true es et e = absurd cc
    go false false es et e = rw (es, et) refl

feed : (rest : List ℕ) → lines_of (10 ∷ rest) ≡ [] ∷ lines_of rest
unfolding lines_of
feed rest = refl

nothing : lines_of [] ≡ [] ∷ []
unfolding lines_of
nothing = refl

line_more : (line rest : List ℕ) → in_line line ≡ true → lines_of (line ++ 10 ∷ rest) ≡ line ∷ lines_of rest
line_more [] rest h = feed rest
line_more (x ∷ line) rest h =
    let parts = and_parts (is_in_line x) (in_line line) h in
    step x (line ++ 10 ∷ rest) parts.0 ∙ ap (b.onto_first x) (line_more line rest parts.1)

line_last : (line : List ℕ) → in_line line ≡ true → lines_of line ≡ line ∷ []
line_last [] h = nothing
line_last (x ∷ line) h =
    let parts = and_parts (is_in_line x) (in_line line) h in
    step x line parts.0 ∙ ap (b.onto_first x) (line_last line parts.1)

indented_in_line : (start line : List ℕ) → in_line start ≡ true → in_line line ≡ true → in_line (indented start line) ≡ true
indented_in_line start [] s h = refl
indented_in_line start (x ∷ line) s h = all_both is_in_line start (x ∷ line) s h

-- after a line, the lines as they are written and the line of the last marks
lines_after : (start line : List ℕ) (lines : List (List ℕ)) → in_line start ≡ true → in_line line ≡ true → list_all in_line lines ≡ true → lines_of (line ++ raw_of start lines) ≡ line ∷ (map (indented start) lines ++ start ∷ [])
lines_after start line [] s h all = line_more line start h ∙ ap (λ (ls : List (List ℕ)). line ∷ ls) (line_last start s)
lines_after start line (next ∷ lines) s h all =
    let parts = and_parts (in_line next) (list_all in_line lines) all in
    line_more line (indented start next ++ raw_of start lines) h
    ∙ ap (λ (ls : List (List ℕ)). line ∷ ls) (lines_after start (indented start next) lines s (indented_in_line start next s parts.0) parts.1)

pub raw_lines : (start : List ℕ) (lines : List (List ℕ)) → in_line start ≡ true → list_all in_line lines ≡ true → lines_of (raw_of start lines) ≡ [] ∷ (map (indented start) lines ++ start ∷ [])
raw_lines start lines s all = lines_after start [] lines s refl all
