-- Where `"""` may occur in a printed line, and how the line is read.
use Rattle.std.proofs.Common.{◌≡◌, ℕ, Bool, true, false, cond, ◌&&◌, ◌==◌, List, [], ◌∷◌, ◌++◌, refl, subst, arith, eqb-true}
use Rattle.std.specs.List.{list_all}
use Rattle.std.proofs.lemmas.Bool.{and_parts, and_left, and_right}
use Rattle.std.proofs.lemmas.Grind.{common_steps}
use Rattle.tree_literals.specs.StringLayout.{is_quotes, block_escaped}
use Rattle.read_tokens.specs.Bytes.{begins_with}
use Rattle.read_tokens.specs.Blocks.{quotes, escaped_quotes, block_character_len, block_character_at, is_white_space}
use Rattle.round_trip.proofs.Between.{NoMark, none_begin}
use Rattle.round_trip.proofs.Pieces.{Reads, reads_none, reads_piece, reads_both}

abbrev pub BlockReads : List ℕ → List ℕ → List ℕ → Type 0
BlockReads text value rest = Reads block_character_len block_character_at text value rest

-- ---- `"""` nowhere

-- a byte that is no quotation mark begins what is printed of it and of others, or a backslash does
one_begins : (b : ℕ) (line rest : List ℕ) → (b == 34) ≡ false → NoMark (block_escaped (b ∷ line) ++ rest)
one_begins b [] rest h = rw h refl
one_begins b (c ∷ []) rest h = rw h refl
one_begins b (c ∷ d ∷ line) rest h = go (is_quotes b c d)
  where
    go : (t : Bool) → NoMark (cond t (92 ∷ 34 ∷ 34 ∷ 34 ∷ block_escaped line) (b ∷ block_escaped (c ∷ d ∷ line)) ++ rest)
    go true = refl
    go false = rw h refl

both_false : (s t : Bool) → (s && t) ≡ false → (s && (t && true)) ≡ false
both_false true true h = absurd cc
both_false true false h = refl
both_false false t h = refl

two_begin : (b c : ℕ) (line rest : List ℕ) → is_quotes 34 b c ≡ false → begins_with (34 ∷ 34 ∷ []) (block_escaped (b ∷ c ∷ line) ++ rest) ≡ false
two_begin b c [] rest h = both_false (b == 34) (c == 34) h
two_begin b c (d ∷ line) rest h = go (is_quotes b c d)
  where
    first : (s t : Bool) → (b == 34) ≡ s → (c == 34) ≡ t → (s && t) ≡ false → (s && begins_with (34 ∷ []) (block_escaped (c ∷ d ∷ line) ++ rest)) ≡ false
    first true true es et e = absurd cc
    first true false es et e = one_begins c (d ∷ line) rest et
    first false t es et e = refl

    go : (t : Bool) → begins_with (34 ∷ 34 ∷ []) (cond t (92 ∷ 34 ∷ 34 ∷ 34 ∷ block_escaped line) (b ∷ block_escaped (c ∷ d ∷ line)) ++ rest) ≡ false
    go true = refl
    go false = first (b == 34) (c == 34) refl refl h

-- what is printed of a line begins with no `"""`
pub no_marks : (line rest : List ℕ) → NoMark rest → begins_with quotes (block_escaped line ++ rest) ≡ false
no_marks [] rest none = none_begin rest (34 ∷ 34 ∷ []) none
no_marks (a ∷ []) rest none = and_right (a == 34) (begins_with (34 ∷ 34 ∷ []) rest) (none_begin rest (34 ∷ []) none)
no_marks (a ∷ b ∷ []) rest none = and_right (a == 34) (b == 34 && begins_with (34 ∷ []) rest) (and_right (b == 34) (begins_with (34 ∷ []) rest) none)
no_marks (a ∷ b ∷ c ∷ line) rest none = go (is_quotes a b c) refl
  where
    first : (s : Bool) → (a == 34) ≡ s → is_quotes a b c ≡ false → (s && begins_with (34 ∷ 34 ∷ []) (block_escaped (b ∷ c ∷ line) ++ rest)) ≡ false
    first true es e = two_begin b c line rest (subst (λ (n : ℕ). is_quotes n b c ≡ false) (eqb-true a 34 es) e)
    first false es e = refl

    go : (t : Bool) → is_quotes a b c ≡ t → begins_with quotes (cond t (92 ∷ 34 ∷ 34 ∷ 34 ∷ block_escaped line) (a ∷ block_escaped (b ∷ c ∷ line)) ++ rest) ≡ false
    go true e = refl
    go false e = first (a == 34) refl e

-- ---- a line

-- a byte that begins neither `"""` nor `\"""`
plain_piece : (b : ℕ) (rest : List ℕ) → (b == 92 && begins_with quotes rest) ≡ false → begins_with quotes (b ∷ rest) ≡ false → BlockReads (b ∷ []) (b ∷ []) rest
unfolding block_character_len block_character_at
plain_piece b rest none here = reads_piece block_character_len block_character_at (b ∷ []) (b ∷ []) rest (record { some = omega arith; sized = rw (none, here) refl; parted = rw none refl })

plain_byte : (b : ℕ) (rest : List ℕ) → begins_with quotes rest ≡ false → begins_with quotes (b ∷ rest) ≡ false → BlockReads (b ∷ []) (b ∷ []) rest
plain_byte b rest none here = plain_piece b rest (and_right (b == 92) (begins_with quotes rest) none) here

-- a byte that begins neither, whatever follows it
pub other_byte : (b : ℕ) (rest : List ℕ) → (b == 34) ≡ false → (b == 92) ≡ false → BlockReads (b ∷ []) (b ∷ []) rest
other_byte b rest one two = plain_piece b rest (and_left (b == 92) (begins_with quotes rest) two) (and_left (b == 34) (begins_with (34 ∷ 34 ∷ []) rest) one)

marks_read : (rest : List ℕ) → BlockReads escaped_quotes quotes rest
unfolding block_character_len block_character_at
marks_read rest = reads_piece block_character_len block_character_at escaped_quotes quotes rest (record { some = omega arith; sized = refl; parted = refl })

no_mark : (b : ℕ) → is_white_space b ≡ true → (b == 34) ≡ false
no_mark b h = grind (arith, common_steps)

no_backslash : (b : ℕ) → is_white_space b ≡ true → (b == 92) ≡ false
no_backslash b h = grind (arith, common_steps)

-- what is printed of a line stands for it, where no quotation mark follows
pub line_reads : (line rest : List ℕ) → NoMark rest → BlockReads (block_escaped line) line rest
line_reads [] rest none = reads_none block_character_len block_character_at rest
line_reads (a ∷ []) rest none = plain_byte a rest (no_marks [] rest none) (no_marks (a ∷ []) rest none)
line_reads (a ∷ b ∷ []) rest none =
    reads_both block_character_len block_character_at (a ∷ []) (a ∷ []) (b ∷ []) (b ∷ []) rest
    (plain_byte a (b ∷ rest) (no_marks (b ∷ []) rest none) (no_marks (a ∷ b ∷ []) rest none))
    (plain_byte b rest (no_marks [] rest none) (no_marks (b ∷ []) rest none))
line_reads (a ∷ b ∷ c ∷ line) rest none = go (is_quotes a b c) refl (no_marks (a ∷ b ∷ c ∷ line) rest none) (line_reads line rest none) (line_reads (b ∷ c ∷ line) rest none)
  where
    go : (t : Bool) → is_quotes a b c ≡ t
        → begins_with quotes (cond t (92 ∷ 34 ∷ 34 ∷ 34 ∷ block_escaped line) (a ∷ block_escaped (b ∷ c ∷ line)) ++ rest) ≡ false
        → BlockReads (block_escaped line) line rest → BlockReads (block_escaped (b ∷ c ∷ line)) (b ∷ c ∷ line) rest
        → BlockReads (cond t (92 ∷ 34 ∷ 34 ∷ 34 ∷ block_escaped line) (a ∷ block_escaped (b ∷ c ∷ line))) (a ∷ b ∷ c ∷ line) rest
    go true e here following next =
        let one : a ≡ 34 = grind (arith, common_steps) in
        let two : b ≡ 34 = grind (arith, common_steps) in
        let three : c ≡ 34 = grind (arith, common_steps) in
        let same : quotes ++ line ≡ a ∷ b ∷ c ∷ line = rw (one, two, three) refl in
        subst (λ (v : List ℕ). BlockReads (92 ∷ 34 ∷ 34 ∷ 34 ∷ block_escaped line) v rest) same
        (reads_both block_character_len block_character_at escaped_quotes quotes (block_escaped line) line rest (marks_read (block_escaped line ++ rest)) following)
    go false e here following next =
        reads_both block_character_len block_character_at (a ∷ []) (a ∷ []) (block_escaped (b ∷ c ∷ line)) (b ∷ c ∷ line) rest
        (plain_byte a (block_escaped (b ∷ c ∷ line) ++ rest) (no_marks (b ∷ c ∷ line) rest none) here)
        next

-- white space stands for itself
pub white_reads : (white rest : List ℕ) → list_all is_white_space white ≡ true → BlockReads white white rest
white_reads [] rest h = reads_none block_character_len block_character_at rest
white_reads (b ∷ white) rest h =
    let parts = and_parts (is_white_space b) (list_all is_white_space white) h in
    reads_both block_character_len block_character_at (b ∷ []) (b ∷ []) white white rest
    (other_byte b (white ++ rest) (no_mark b parts.0) (no_backslash b parts.0))
    (white_reads white rest parts.1)
