-- Strings that stand for a piece of their own text.
use Rattle.std.proofs.Common.{◌≡◌, ◌⊎◌, ℕ, zero, suc, ◌+◌, ◌-◌, ◌<◌, ◌≤◌, Bool, true, false, cond, ◌&&◌, ◌||◌, ◌==◌, List, [], ◌∷◌, ◌++◌, length, take, drop, get_or, slice_range, Option, Some, None, refl, sym, ap, ◌∙◌, subst, inl, inr, arith, one-add, eqb-true, append-nil, IsUtf8, IsCharBoundary}
use Rattle.std.specs.List.{prefix_len, list_all, list_any}
use Rattle.std.proofs.lemmas.Bool.{and_parts, or_cases, cases_order}
use Rattle.std.proofs.lemmas.List.{length-take-le, length-drop, take-take, drop-drop, drop-take, get_or-take, get_or-drop}
use Rattle.std.proofs.lemmas.List.Sums.{prefix_len_passes, prefix_len-le-length}
use Rattle.std.proofs.lemmas.Str.{IsCharBoundary-start, IsCharBoundary-after_ascii, IsCharBoundary-from_rest}
use Rattle.read_tokens.specs.Bytes.{between}
use Rattle.read_tokens.specs.Strings.{part_at, string_value}
use Rattle.read_tokens.specs.Tokens.{is_in_line}
use Rattle.read_tokens.specs.Blocks.{block_character_at, raw_value, block_value, ends_line, onto_first, lines_of, is_white_space, is_blank, indent_of, least, common_indent, or_zero, without_blank_front, block_string_value}
use Rattle.read_tokens.specs.Values.{terminator_len, line_in, Cut, further_lines, kept_from, least_of}
use Rattle.read_tokens.specs.Forms.{Marked}
use Rattle.read_tokens.specs.PlainTexts.{is_space, IsPiece}
use Rattle.read_tokens.proofs.Lines.{line_cut, line_boundary, rest_in, after_in, value_is, front_first}
use Rattle.read_tokens.proofs.LineSteps.{common_step, none_kept, front_step, blank_value, full_value}
use Rattle.read_tokens.proofs.Forms.{open_boundary, close_boundary}
use Rattle.read_tokens.proofs.Values.{part_keeps, block_keeps, kept_whole}

-- ---- blank texts have blank lines alone

white_left : (w n r m : Bool) → n || (r && m) ≡ false → r ≡ false → w || (n || r) ≡ true → w ≡ true
white_left true n r m a b c = refl
white_left false true r m a b c = absurd cc
white_left false false true m a b c = absurd cc
white_left false false false m a b c = absurd cc

onto_blank : (b : ℕ) (lines : List (List ℕ)) → is_white_space b ≡ true → list_all is_blank lines ≡ true → list_all is_blank (onto_first b lines) ≡ true
onto_blank b [] white h = refl
onto_blank b (line ∷ lines) white h = ap (λ (t : Bool). (t && is_blank line) && list_all is_blank lines) white ∙ h

blank_lines : (text : List ℕ) → list_all is_space text ≡ true → list_all is_blank (lines_of text) ≡ true
unfolding lines_of
blank_lines [] h = refl
blank_lines (b ∷ text) h =
    let parts = and_parts (is_space b) (list_all is_space text) h in
    go (ends_line b text) (b == 13) refl refl parts.0 (blank_lines text parts.1)
  where
    go : (s t : Bool) → ends_line b text ≡ s → (b == 13) ≡ t → is_space b ≡ true → list_all is_blank (lines_of text) ≡ true
        → list_all is_blank (cond s ([] ∷ lines_of text) (cond t (lines_of text) (onto_first b (lines_of text)))) ≡ true
    go true t es et space more = more
    go false true es et space more = more
    go false false es et space more = onto_blank b (lines_of text) (white_left _ _ _ _ es et space) more

all_dropped : (p : ℕ → Bool) (n : ℕ) (text : List ℕ) → list_all p text ≡ true → list_all p (drop n text) ≡ true
all_dropped p zero text h = h
all_dropped p (suc n) [] h = h
all_dropped p (suc n) (b ∷ text) h = all_dropped p n text (and_parts (p b) (list_all p text) h).1

none_common : (lines : List (List ℕ)) → list_all is_blank lines ≡ true → common_indent lines ≡ None
none_common [] h = refl
none_common (line ∷ lines) h =
    let parts = and_parts (is_blank line) (list_all is_blank lines) h in
    ap (λ (t : Bool). cond t (common_indent lines) (Some (least (indent_of line) (common_indent lines)))) parts.0 ∙ none_common lines parts.1

-- ---- one line is not blank

-- after blank lines there is one that is this value without its indent, and only blank ones follow
record OneFull (lines : List (List ℕ)) (value : List ℕ) : Type 0 where
  pub line : List ℕ
  pub others : List (List ℕ)
  pub front : without_blank_front lines ≡ line ∷ others
  pub blank : list_all is_blank others ≡ true
  pub is : drop (indent_of line) line ≡ value

front_blank : (line : List ℕ) (lines : List (List ℕ)) → is_blank line ≡ true → without_blank_front (line ∷ lines) ≡ without_blank_front lines
front_blank line lines blank = ap (λ (t : Bool). cond t (without_blank_front lines) (line ∷ lines)) blank

front_full : (line : List ℕ) (lines : List (List ℕ)) → is_blank line ≡ false → without_blank_front (line ∷ lines) ≡ line ∷ lines
front_full line lines full = ap (λ (t : Bool). cond t (without_blank_front lines) (line ∷ lines)) full

one_blank : (line : List ℕ) (lines : List (List ℕ)) (value : List ℕ) → is_blank line ≡ true → OneFull lines value → OneFull (line ∷ lines) value
one_blank line lines value blank o = record { line = o.line; others = o.others; front = front_blank line lines blank ∙ o.front; blank = o.blank; is = o.is }

one_after : (line : List ℕ) (lines : List (List ℕ)) (value : List ℕ) → is_blank line ≡ true → OneFull (line ∷ lines) value → OneFull lines value
one_after line lines value blank o = record { line = o.line; others = o.others; front = sym (front_blank line lines blank) ∙ o.front; blank = o.blank; is = o.is }

one_onto : (b : ℕ) (lines : List (List ℕ)) (value : List ℕ) → is_white_space b ≡ true → OneFull lines value → OneFull (onto_first b lines) value
one_onto b [] value white o = o
one_onto b (line ∷ lines) value white o = go (is_blank line) refl
  where
    longer : is_blank (b ∷ line) ≡ is_blank line
    longer = ap (λ (t : Bool). t && is_blank line) white

    go : (t : Bool) → is_blank line ≡ t → OneFull ((b ∷ line) ∷ lines) value
    go true e = one_blank (b ∷ line) lines value (longer ∙ e) (one_after line lines value e o)
    go false e =
        let same : line ∷ lines ≡ o.line ∷ o.others = sym (front_full line lines e) ∙ o.front in
        let first : line ≡ o.line = cc in
        let rest : lines ≡ o.others = cc in
        let indent : indent_of (b ∷ line) ≡ suc (indent_of line) = rw white (one-add (indent_of line)) in
        record {
          line = b ∷ line;
          others = lines;
          front = front_full (b ∷ line) lines (longer ∙ e);
          blank = ap (list_all is_blank) rest ∙ o.blank;
          is = ap (λ (n : ℕ). drop n (b ∷ line)) indent ∙ ap (λ (l : List ℕ). drop (indent_of l) l) first ∙ o.is;
        }

one_step : (b : ℕ) (text value : List ℕ) → is_space b ≡ true → OneFull (lines_of text) value → OneFull (lines_of (b ∷ text)) value
unfolding lines_of
one_step b text value space o = go (ends_line b text) (b == 13) refl refl
  where
    go : (s t : Bool) → ends_line b text ≡ s → (b == 13) ≡ t
        → OneFull (cond s ([] ∷ lines_of text) (cond t (lines_of text) (onto_first b (lines_of text)))) value
    go true t es et = one_blank [] (lines_of text) value refl o
    go false true es et = o
    go false false es et = one_onto b (lines_of text) value (white_left _ _ _ _ es et space) o

abbrev after_blank : List ℕ → Type 0
after_blank text = list_all is_space (drop (prefix_len is_in_line text) text) ≡ true

after_all : (text : List ℕ) → after_blank text → list_all is_blank (lines_of (after_in text)) ≡ true
after_all text h = blank_lines (after_in text) (all_dropped is_space (terminator_len (rest_in text)) (rest_in text) h)

no_space : (w n r : Bool) → w || (n || r) ≡ false → (w ≡ false) × (n || r ≡ false)
no_space true n r h = absurd cc
no_space false n r h = (refl, h)

one_line : (text line following : List ℕ) → Cut text line following → is_blank line ≡ false → indent_of line ≡ 0 → list_all is_blank (lines_of following) ≡ true → OneFull (lines_of text) line
one_line text line following (inl cut) full none blank = record {
  line = line;
  others = lines_of following;
  front = ap without_blank_front cut ∙ front_full line (lines_of following) full;
  blank = blank;
  is = ap (λ (n : ℕ). drop n line) none;
}
one_line text line following (inr cut) full none blank = record {
  line = line;
  others = [];
  front = ap without_blank_front cut.1 ∙ front_full line [] full;
  blank = refl;
  is = ap (λ (n : ℕ). drop n line) none;
}

one_here : (b : ℕ) (text : List ℕ) → is_space b ≡ false → after_blank (b ∷ text) → OneFull (lines_of (b ∷ text)) (line_in (b ∷ text))
one_here b text h blank =
    let none = no_space (is_white_space b) (b == 10) (b == 13) h in
    let in_line : is_in_line b ≡ true = rw none.1 refl in
    let more : prefix_len is_in_line (b ∷ text) ≡ suc (prefix_len is_in_line text) = rw in_line (one-add (prefix_len is_in_line text)) in
    let line : line_in (b ∷ text) ≡ b ∷ line_in text = ap (λ (n : ℕ). take n (b ∷ text)) more in
    let full : is_blank (line_in (b ∷ text)) ≡ false = ap is_blank line ∙ ap (λ (t : Bool). t && is_blank (line_in text)) none.0 in
    let indent : indent_of (line_in (b ∷ text)) ≡ 0 = ap indent_of line ∙ ap (λ (t : Bool). cond t (1 + indent_of (line_in text)) 0) none.0 in
    one_line (b ∷ text) (line_in (b ∷ text)) (after_in (b ∷ text)) (line_cut (b ∷ text)) full indent (after_all (b ∷ text) blank)

abbrev one_at : List ℕ → ℕ → Type 0
one_at text n = n < length text → after_blank (drop n text) → OneFull (lines_of text) (line_in (drop n text))

one_full : (text : List ℕ) → one_at text (prefix_len is_space text)
one_full [] = λ within h. absurd (omega arith)
one_full (b ∷ text) = go (is_space b) refl (one_full text)
  where
    go : (t : Bool) → is_space b ≡ t → one_at text (prefix_len is_space text) → one_at (b ∷ text) (cond t (1 + prefix_len is_space text) 0)
    go true e more = subst (one_at (b ∷ text)) (sym (one-add (prefix_len is_space text))) (λ within h. one_step b text _ e (more (omega arith) h))
    go false e more = λ within h. one_here b text e h

common_front : (lines : List (List ℕ)) → common_indent (without_blank_front lines) ≡ common_indent lines
common_front [] = refl
common_front (line ∷ lines) = go (is_blank line) refl (common_front lines)
  where
    go : (t : Bool) → is_blank line ≡ t → common_indent (without_blank_front lines) ≡ common_indent lines
        → common_indent (cond t (without_blank_front lines) (line ∷ lines)) ≡ cond t (common_indent lines) (Some (least (indent_of line) (common_indent lines)))
    go true e more = more
    go false e more = ap (λ (t : Bool). cond t (common_indent lines) (Some (least (indent_of line) (common_indent lines)))) e

-- that line is kept alone, without its indent
one_kept : (lines : List (List ℕ)) (value : List ℕ) → OneFull lines value → kept_from (or_zero (common_indent lines)) (without_blank_front lines) ≡ value
one_kept lines value o =
    let full : is_blank o.line ≡ false = front_first lines o.line o.others o.front in
    let common : common_indent lines ≡ Some (indent_of o.line) =
    sym (common_front lines) ∙ ap common_indent o.front
    ∙ ap (λ (t : Bool). cond t (common_indent o.others) (Some (least (indent_of o.line) (common_indent o.others)))) full
    ∙ ap (λ (others : Option ℕ). Some (least (indent_of o.line) others)) (none_common o.others o.blank) in
    ap (λ (n : Option ℕ). kept_from (or_zero n) (without_blank_front lines)) common
    ∙ ap (kept_from (indent_of o.line)) o.front
    ∙ ap (λ (ls : List (List ℕ)). drop (indent_of o.line) o.line ++ further_lines (indent_of o.line) ls) (none_kept o.others o.blank)
    ∙ append-nil (drop (indent_of o.line) o.line)
    ∙ o.is

-- ---- the value of a raw value with one line that is not blank

-- the first line
first_value : (raw : List ℕ) → is_blank (line_in raw) ≡ false → after_blank raw → line_in raw ≡ block_string_value raw
first_value raw full h = sym (
    value_is raw (line_in raw) (after_in raw) (line_cut raw)
    ∙ full_value (line_in raw) _ (lines_of (after_in raw)) full
    ∙ ap (λ (ls : List (List ℕ)). line_in raw ++ further_lines (or_zero (common_indent (lines_of (after_in raw)))) ls) (none_kept (lines_of (after_in raw)) (after_all raw h))
    ∙ append-nil (line_in raw))

-- the indent of a blank first line makes no difference
common_after : (raw : List ℕ) → is_blank (line_in raw) ≡ true → common_indent (lines_of (after_in raw)) ≡ common_indent (lines_of raw)
common_after raw blank =
    sym (ap (λ (t : Bool). least_of (cond t None (Some (least (indent_of (line_in raw)) None))) (common_indent (lines_of (after_in raw)))) blank)
    ∙ common_step raw (line_in raw) (after_in raw) None (line_cut raw)

-- another line
later_value : (raw : List ℕ) → is_blank (line_in raw) ≡ true → prefix_len is_space raw < length raw → after_blank (drop (prefix_len is_space raw) raw)
    → line_in (drop (prefix_len is_space raw) raw) ≡ block_string_value raw
later_value raw blank within h = sym (
    value_is raw (line_in raw) (after_in raw) (line_cut raw)
    ∙ blank_value (line_in raw) _ (lines_of (after_in raw)) blank
    ∙ front_step _ raw (line_in raw) (after_in raw) (line_cut raw) blank
    ∙ ap (λ (n : Option ℕ). kept_from (or_zero n) (without_blank_front (lines_of raw))) (common_after raw blank)
    ∙ one_kept (lines_of raw) _ (one_full raw within h))

-- ---- where it is in the raw value

space_below : (c : ℕ) → is_space c ≡ true → c < 128
space_below c h = elim (or_cases (is_white_space c) (c == 10 || c == 13) h) [
  | inl w ↦ elim (or_cases (c == 9) (c == 32) w) [
    | inl e ↦ let is : c ≡ 9 = eqb-true c 9 e in omega arith
    | inr e ↦ let is : c ≡ 32 = eqb-true c 32 e in omega arith
  ]
  | inr w ↦ elim (or_cases (c == 10) (c == 13) w) [
    | inl e ↦ let is : c ≡ 10 = eqb-true c 10 e in omega arith
    | inr e ↦ let is : c ≡ 13 = eqb-true c 13 e in omega arith
  ]
]

space_boundary : (text : List ℕ) (n : ℕ) → n ≤ prefix_len is_space text → IsUtf8 text → IsCharBoundary text n
space_boundary text zero h utf8 = IsCharBoundary-start text utf8
space_boundary text (suc n) h utf8 =
    let fits : prefix_len is_space text ≤ length text = prefix_len-le-length is_space text in
    let next : n + 1 ≡ suc n = omega arith in
    let before : n < prefix_len is_space text = omega arith in
    subst (IsCharBoundary text) next (IsCharBoundary-after_ascii text n utf8 (omega arith) (space_below _ (prefix_len_passes is_space text n 0 before)))

pub first_piece : (raw : List ℕ) (n : ℕ) → n ≡ prefix_len is_in_line raw → is_blank (line_in raw) ≡ false → list_all is_space (drop n raw) ≡ true → IsUtf8 raw
    → IsPiece raw 0 n (block_string_value raw)
first_piece raw n is full h utf8 = subst (λ (m : ℕ). IsPiece raw 0 m (block_string_value raw)) (sym is) (record {
  ordered = omega arith;
  begins = IsCharBoundary-start raw utf8;
  ends = line_boundary raw;
  same = (let size : prefix_len is_in_line raw - 0 ≡ prefix_len is_in_line raw = omega arith in ap (λ (m : ℕ). take m raw) size) ∙ first_value raw full (subst (λ (m : ℕ). list_all is_space (drop m raw) ≡ true) is h);
})

later_at : (raw : List ℕ) (f n : ℕ) → prefix_len is_space raw ≡ f → prefix_len is_in_line (drop f raw) ≡ n → line_in (drop f raw) ≡ block_string_value raw → IsUtf8 raw
    → IsPiece raw f (f + n) (block_string_value raw)
later_at raw f n front line value utf8 =
    let fits : prefix_len is_space raw ≤ length raw = prefix_len-le-length is_space raw in
    let size : f + n - f ≡ n = omega arith in
    record {
      ordered = omega arith;
      begins = space_boundary raw f (omega arith) utf8;
      ends = IsCharBoundary-from_rest raw f n (omega arith) (subst (IsCharBoundary (drop f raw)) line (line_boundary (drop f raw)));
      same = ap (λ (m : ℕ). take m (drop f raw)) (size ∙ sym line) ∙ value;
    }

pub later_piece : (raw : List ℕ) (f n : ℕ) → f ≡ prefix_len is_space raw → n ≡ prefix_len is_in_line (drop f raw) → f < length raw → is_blank (line_in raw) ≡ true
    → list_all is_space (drop n (drop f raw)) ≡ true → IsUtf8 raw → IsPiece raw f (f + n) (block_string_value raw)
later_piece raw f n front line within blank h utf8 =
    let h' : after_blank (drop f raw) = subst (λ (m : ℕ). list_all is_space (drop m (drop f raw)) ≡ true) line h in
    let value = later_value raw blank (subst (λ (m : ℕ). m < length raw) front within) (subst (λ (m : ℕ). after_blank (drop m raw)) front h') in
    later_at raw f n (sym front) (sym line) (subst (λ (m : ℕ). line_in (drop m raw) ≡ block_string_value raw) (sym front) value) utf8

-- ---- where it is in the token

between_len : (n : ℕ) (text : List ℕ) → n + n ≤ length text → length (between n text) ≡ length text - n - n
between_len n text h =
    let size : length (drop n text) ≡ length text - n = length-drop n text in
    length-take-le (length text - n - n) (drop n text) (omega arith)

boundary_between : (n : ℕ) (text : List ℕ) (i : ℕ) → Marked n text → IsCharBoundary (between n text) i → IsCharBoundary text (n + i)
boundary_between n text i marked at = go (cases_order i (length (between n text)))
  where
    some : 0 < n
    some = marked.some

    twice : n + n ≤ length text
    twice = marked.twice

    size : length (between n text) ≡ length text - n - n
    size = between_len n text marked.twice

    go : (i ≡ length (between n text)) ⊎ ((i < length (between n text)) ⊎ (length (between n text) < i)) → IsCharBoundary text (n + i)
    go (inl is) = let end : length text - n ≡ n + i = omega (arith, some, twice, size) in subst (IsCharBoundary text) end (close_boundary n text marked)
    go (inr (inl lt)) =
        let byte : get_or (between n text) i 0 ≡ get_or text (n + i) 0 = get_or-take (length text - n - n) (drop n text) i 0 (omega (arith, size)) ∙ get_or-drop n text i 0 in
        (omega (arith, some, twice, size), λ l a. rw byte at (at.1 lt (rw byte a)))
    go (inr (inr gt)) = let fits : i ≤ length (between n text) = at.0 in absurd (omega arith)

piece_between : (n : ℕ) (text : List ℕ) (start end : ℕ) (value : List ℕ) → Marked n text → IsPiece (between n text) start end value → IsPiece text (n + start) (n + end) value
piece_between n text start end value marked piece =
    let m : ℕ = length text - n - n in
    let size : length (between n text) ≡ m = between_len n text marked.twice in
    let fits : end ≤ length (between n text) = piece.ends.0 in
    let ordered : start ≤ end = piece.ordered in
    let whole : m ≡ start + (m - start) = omega arith in
    let long : n + end - (n + start) ≡ end - start = omega arith in
    let inner : slice_range (between n text) start end ≡ take (end - start) (drop start (drop n text)) =
    ap (λ (i : ℕ). take (end - start) (drop start (take i (drop n text)))) whole
    ∙ ap (take (end - start)) (drop-take start (m - start) (drop n text))
    ∙ take-take (end - start) (m - start) (drop start (drop n text)) (omega arith) in
    record {
      ordered = omega arith;
      begins = boundary_between n text start marked piece.begins;
      ends = boundary_between n text end marked piece.ends;
      same = ap (λ (i : ℕ). take i (drop (n + start) text)) long ∙ ap (take (end - start)) (sym (drop-drop start n text)) ∙ sym inner ∙ piece.same;
    }

pub string_piece : (token : List ℕ) → Marked 1 token → list_any (λ b. b == 92) (between 1 token) ≡ false → IsUtf8 token → IsPiece token 1 (length token - 1) (string_value token)
unfolding string_value
string_piece token marked none utf8 =
    let twice = marked.twice in
    record {
      ordered = omega arith;
      begins = open_boundary 1 token marked utf8;
      ends = close_boundary 1 token marked;
      same = sym (kept_whole part_at part_keeps (between 1 token) none);
    }

pub block_piece : (token : List ℕ) (start end : ℕ) → Marked 3 token → list_any (λ b. b == 92) (between 3 token) ≡ false
    → IsPiece (between 3 token) start end (block_string_value (between 3 token)) → IsPiece token (3 + start) (3 + end) (block_value token)
unfolding raw_value block_value
block_piece token start end marked none piece =
    subst (λ (raw : List ℕ). IsPiece token (3 + start) (3 + end) (block_string_value raw)) (sym (kept_whole block_character_at block_keeps (between 3 token) none))
    (piece_between 3 token start end _ marked piece)
