-- What is between the marks of a printed block string, and its raw value.
use Rattle.std.proofs.Common.{◌≡◌, ℕ, zero, suc, Bool, true, List, [], ◌∷◌, ◌++◌, map, refl, sym, ap, ◌∙◌, subst, append-nil, append_assoc}
use Rattle.std.specs.List.{list_all}
use Rattle.std.proofs.lemmas.Bool.{and_parts, and_from}
use Rattle.tree_literals.specs.Joined.{joined}
use Rattle.tree_literals.specs.LineLayout.{line_start}
use Rattle.tree_literals.specs.StringLayout.{text_lines, block_escaped, block_line, block_text}
use Rattle.read_tokens.specs.Blocks.{quotes, block_character_len, block_character_at, is_white_space}
use Rattle.round_trip.proofs.Between.{NoMark}
use Rattle.round_trip.proofs.Pieces.{reads_both}
use Rattle.round_trip.proofs.Marks.{BlockReads, other_byte, line_reads, white_reads}

-- ---- what begins a line

pub all_both : (p : ℕ → Bool) (xs ys : List ℕ) → list_all p xs ≡ true → list_all p ys ≡ true → list_all p (xs ++ ys) ≡ true
all_both p [] ys a b = b
all_both p (x ∷ xs) ys a b =
    let parts = and_parts (p x) (list_all p xs) a in
    and_from (p x) (list_all p (xs ++ ys)) parts.0 (all_both p xs ys parts.1 b)

pub white_start : (prefix : List ℕ) (level : ℕ) → list_all is_white_space prefix ≡ true → list_all is_white_space (line_start prefix level) ≡ true
unfolding joined
white_start prefix zero h = refl
white_start prefix (suc level) h = all_both is_white_space prefix (line_start prefix level) h (white_start prefix level h)

-- ---- between the marks

-- lines, and what begins the line of the last marks
abbrev pub written : List ℕ → ℕ → List (List ℕ) → List ℕ
written prefix level [] = 10 ∷ line_start prefix level
written prefix level (line ∷ lines) = block_line prefix level line ++ written prefix level lines

-- a line after what begins it
abbrev pub indented : List ℕ → List ℕ → List ℕ
indented start [] = []
indented start (b ∷ line) = start ++ b ∷ line

-- what is written stands for this
abbrev pub raw_of : List ℕ → List (List ℕ) → List ℕ
raw_of start [] = 10 ∷ start
raw_of start (line ∷ lines) = 10 ∷ (indented start line ++ raw_of start lines)

written_is : (prefix : List ℕ) (level : ℕ) (lines : List (List ℕ)) → joined (map (block_line prefix level) lines) ++ ((10 ∷ (line_start prefix level ++ [])) ++ quotes) ≡ written prefix level lines ++ quotes
unfolding joined
written_is prefix level [] = ap (λ (s : List ℕ). 10 ∷ (s ++ quotes)) (append-nil (line_start prefix level))
written_is prefix level (line ∷ lines) =
    append_assoc (block_line prefix level line) (joined (map (block_line prefix level) lines)) ((10 ∷ (line_start prefix level ++ [])) ++ quotes)
    ∙ ap (λ (t : List ℕ). block_line prefix level line ++ t) (written_is prefix level lines)
    ∙ sym (append_assoc (block_line prefix level line) (written prefix level lines) quotes)

pub block_is : (prefix : List ℕ) (level : ℕ) (text : List ℕ) → block_text prefix level text ≡ quotes ++ (written prefix level (text_lines text) ++ quotes)
unfolding joined
block_is prefix level text = ap (λ (t : List ℕ). quotes ++ t) (written_is prefix level (text_lines text))

-- ---- how it is read

written_begins : (prefix : List ℕ) (level : ℕ) (lines : List (List ℕ)) (rest : List ℕ) → NoMark (written prefix level lines ++ rest)
unfolding joined
written_begins prefix level [] rest = refl
written_begins prefix level ([] ∷ lines) rest = refl
written_begins prefix level ((b ∷ line) ∷ lines) rest = refl

feed_reads : (rest : List ℕ) → BlockReads (10 ∷ []) (10 ∷ []) rest
feed_reads rest = other_byte 10 rest refl refl

pub block_line_reads : (prefix : List ℕ) (level : ℕ) (line rest : List ℕ) → list_all is_white_space (line_start prefix level) ≡ true → NoMark rest → BlockReads (block_line prefix level line) (10 ∷ indented (line_start prefix level) line) rest
unfolding joined
block_line_reads prefix level [] rest white none = feed_reads rest
block_line_reads prefix level (b ∷ line) rest white none =
    let text : block_escaped (b ∷ line) ≡ block_escaped (b ∷ line) ++ [] = sym (append-nil (block_escaped (b ∷ line))) in
    let start = line_start prefix level in
    subst (λ (t : List ℕ). BlockReads (10 ∷ (start ++ t)) (10 ∷ (start ++ b ∷ line)) rest) text
    (reads_both block_character_len block_character_at (10 ∷ []) (10 ∷ []) (start ++ block_escaped (b ∷ line)) (start ++ b ∷ line) rest
    (feed_reads ((start ++ block_escaped (b ∷ line)) ++ rest))
    (reads_both block_character_len block_character_at start start (block_escaped (b ∷ line)) (b ∷ line) rest
    (white_reads start (block_escaped (b ∷ line) ++ rest) white)
    (line_reads (b ∷ line) rest none)))

pub written_reads : (prefix : List ℕ) (level : ℕ) (lines : List (List ℕ)) (rest : List ℕ) → list_all is_white_space (line_start prefix level) ≡ true → BlockReads (written prefix level lines) (raw_of (line_start prefix level) lines) rest
written_reads prefix level [] rest white =
    reads_both block_character_len block_character_at (10 ∷ []) (10 ∷ []) (line_start prefix level) (line_start prefix level) rest
    (feed_reads (line_start prefix level ++ rest))
    (white_reads (line_start prefix level) rest white)
written_reads prefix level (line ∷ lines) rest white =
    reads_both block_character_len block_character_at (block_line prefix level line) (10 ∷ indented (line_start prefix level) line) (written prefix level lines) (raw_of (line_start prefix level) lines) rest
    (block_line_reads prefix level line (written prefix level lines ++ rest) white (written_begins prefix level lines rest))
    (written_reads prefix level lines rest white)
