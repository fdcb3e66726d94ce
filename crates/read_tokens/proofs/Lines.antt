-- The lines of block strings.
use Rattle.std.proofs.Common.{◌≡◌, ◌⊎◌, ℕ, zero, suc, ◌+◌, ◌<◌, ◌≤◌, min, Bool, true, false, cond, ◌&&◌, ◌||◌, ◌==◌, List, [], ◌∷◌, ◌++◌, length, map, take, drop, get_or, Option, Some, None, refl, sym, ap, ◌∙◌, subst, inl, inr, arith, one-add, eqb-true, IsUtf8, IsCharBoundary}
use Rattle.std.specs.List.{prefix_len, list_all, flat_map}
use Rattle.std.proofs.lemmas.Bool.{and_parts, or_cases, not-false, not-true, cases_order}
use Rattle.std.proofs.lemmas.List.Sums.{prefix_len_passes, prefix_len_stops, prefix_len-le-length}
use Rattle.std.proofs.lemmas.Str.{IsCharBoundary-start, IsCharBoundary-end, IsCharBoundary-before_ascii, IsCharBoundary-after_ascii}
use Rattle.read_tokens.specs.Tokens.{is_in_line, return_len}
use Rattle.read_tokens.specs.Blocks.{onto_first, lines_of, is_white_space, is_blank, indent_of, least, common_indent, or_zero, without_indent, without_blank_front, without_blank_back, formatted, block_string_value}
use Rattle.read_tokens.specs.Values.{terminator_len, line_in, Cut, AtMost, further_lines, kept_from, first_kept}

-- ---- a line is cut

abbrev pub rest_in : List ℕ → List ℕ
rest_in text = drop (prefix_len is_in_line text) text

abbrev pub after_in : List ℕ → List ℕ
after_in text = drop (terminator_len (rest_in text)) (rest_in text)

cut_onto : (b : ℕ) (text line following : List ℕ) → Cut text line following → is_in_line b ≡ true → Cut (b ∷ text) (b ∷ line) following
unfolding lines_of
cut_onto b text line following cut h = go (b == 10) (b == 13) refl refl (not-true (b == 10 || b == 13) h)
  where
    both : lines_of (b ∷ text) ≡ onto_first b (lines_of text) → Cut (b ∷ text) (b ∷ line) following
    both e = elim cut [
      | inl c ↦ inl (e ∙ ap (onto_first b) c)
      | inr c ↦ inr (c.0, e ∙ ap (onto_first b) c.1)
    ]

    go : (s t : Bool) → (b == 10) ≡ s → (b == 13) ≡ t → (s || t) ≡ false → Cut (b ∷ text) (b ∷ line) following
    go true t es et neither = absurd cc
    go false true es et neither = absurd cc
    go false false es et neither = both (rw (es, et) refl)

line_feed_cut : (text : List ℕ) → Cut (10 ∷ text) [] text
unfolding lines_of
line_feed_cut text = inl refl

return_cut : (text : List ℕ) → Cut (13 ∷ text) [] (drop (return_len text) (13 ∷ text))
unfolding lines_of
return_cut [] = inl refl
return_cut (b ∷ text) = go (b == 10) refl
  where
    go : (t : Bool) → (b == 10) ≡ t → Cut (13 ∷ b ∷ text) [] (drop (cond t 2 1) (13 ∷ b ∷ text))
    go true e = let is : b ≡ 10 = eqb-true b 10 e in subst (λ (c : ℕ). Cut (13 ∷ c ∷ text) [] text) (sym is) (inl refl)
    go false e = inl (rw e refl)

pub line_cut : (text : List ℕ) → Cut text (line_in text) (after_in text)
unfolding lines_of
line_cut [] = inr (refl, refl)
line_cut (b ∷ text) = go (b == 10) (b == 13) refl refl (line_cut text)
  where
    go : (s t : Bool) → (b == 10) ≡ s → (b == 13) ≡ t → Cut text (line_in text) (after_in text) → Cut (b ∷ text) (line_in (b ∷ text)) (after_in (b ∷ text))
    go true t es et more = let is : b ≡ 10 = eqb-true b 10 es in subst (λ (c : ℕ). Cut (c ∷ text) (line_in (c ∷ text)) (after_in (c ∷ text))) (sym is) (line_feed_cut text)
    go false true es et more = let is : b ≡ 13 = eqb-true b 13 et in subst (λ (c : ℕ). Cut (c ∷ text) (line_in (c ∷ text)) (after_in (c ∷ text))) (sym is) (return_cut text)
    go false false es et more =
        let in_line : is_in_line b ≡ true = rw (es, et) refl in
        let more_of : prefix_len is_in_line (b ∷ text) ≡ suc (prefix_len is_in_line text) = rw in_line (one-add (prefix_len is_in_line text)) in
        subst (λ (n : ℕ). Cut (b ∷ text) (take n (b ∷ text)) (drop (terminator_len (drop n (b ∷ text))) (drop n (b ∷ text)))) (sym more_of) (cut_onto b text (line_in text) (after_in text) more in_line)

-- ---- where it may be cut

line_end_below : (c : ℕ) → is_in_line c ≡ false → c < 128
line_end_below c h = elim (or_cases (c == 10) (c == 13) (not-false (c == 10 || c == 13) h)) [
  | inl e ↦ let is : c ≡ 10 = eqb-true c 10 e in omega arith
  | inr e ↦ let is : c ≡ 13 = eqb-true c 13 e in omega arith
]

pub line_boundary : (text : List ℕ) → IsCharBoundary text (prefix_len is_in_line text)
line_boundary text = go (prefix_len is_in_line text) refl (prefix_len-le-length is_in_line text)
  where
    go : (n : ℕ) → prefix_len is_in_line text ≡ n → n ≤ length text → IsCharBoundary text n
    go n e within = here (cases_order n (length text))
      where
        here : (n ≡ length text) ⊎ ((n < length text) ⊎ (length text < n)) → IsCharBoundary text n
        here (inl is) = subst (IsCharBoundary text) (sym is) (IsCharBoundary-end text)
        here (inr (inl lt)) =
            let lt' : prefix_len is_in_line text < length text = omega arith in
            let stops : is_in_line (get_or text n 0) ≡ false = rw e at (prefix_len_stops is_in_line text 0 lt') in
            IsCharBoundary-before_ascii text n lt (line_end_below _ stops)
        here (inr (inr gt)) = absurd (omega arith)

pub terminator_boundary : (text : List ℕ) → IsUtf8 text → IsCharBoundary text (terminator_len text)
terminator_boundary [] utf8 = IsCharBoundary-start [] utf8
terminator_boundary (b ∷ text) utf8 = go (b == 13) (b == 10) refl refl
  where
    one : b < 128 → IsCharBoundary (b ∷ text) 1
    one below = IsCharBoundary-after_ascii (b ∷ text) 0 utf8 (omega arith) below

    two : (bs : List ℕ) → bs ≡ text → b < 128 → IsCharBoundary (b ∷ bs) (return_len bs)
    two [] e below = subst (λ (cs : List ℕ). IsCharBoundary (b ∷ cs) 1) (sym e) (one below)
    two (c ∷ bs) e below = choose (c == 10) refl
      where
        utf8' : IsUtf8 (b ∷ c ∷ bs)
        utf8' = subst (λ (cs : List ℕ). IsUtf8 (b ∷ cs)) (sym e) utf8

        choose : (t : Bool) → (c == 10) ≡ t → IsCharBoundary (b ∷ c ∷ bs) (cond t 2 1)
        choose true h = let is : c ≡ 10 = eqb-true c 10 h in IsCharBoundary-after_ascii (b ∷ c ∷ bs) 1 utf8' (omega arith) (omega arith)
        choose false h = subst (λ (cs : List ℕ). IsCharBoundary (b ∷ cs) 1) (sym e) (one below)

    go : (s t : Bool) → (b == 13) ≡ s → (b == 10) ≡ t → IsCharBoundary (b ∷ text) (cond s (return_len text) (cond t 1 0))
    go true t es et = let is : b ≡ 13 = eqb-true b 13 es in two text refl (omega arith)
    go false true es et = let is : b ≡ 10 = eqb-true b 10 et in one (omega arith)
    go false false es et = IsCharBoundary-start (b ∷ text) utf8

white_below : (c : ℕ) → is_white_space c ≡ true → c < 128
white_below c h = elim (or_cases (c == 9) (c == 32) h) [
  | inl e ↦ let is : c ≡ 9 = eqb-true c 9 e in omega arith
  | inr e ↦ let is : c ≡ 32 = eqb-true c 32 e in omega arith
]

-- after some of the white space at the beginning
pub indent_boundary : (line : List ℕ) (n : ℕ) → n ≤ indent_of line → IsUtf8 line → IsCharBoundary line n
indent_boundary line zero h utf8 = IsCharBoundary-start line utf8
indent_boundary line (suc n) h utf8 =
    let fits : indent_of line ≤ length line = prefix_len-le-length is_white_space line in
    let next : n + 1 ≡ suc n = omega arith in
    let before : n < indent_of line = omega arith in
    subst (IsCharBoundary line) next (IsCharBoundary-after_ascii line n utf8 (omega arith) (white_below _ (prefix_len_passes is_white_space line n 0 before)))

-- ---- indents

blank_indent : (line : List ℕ) → is_blank line ≡ true → indent_of line ≡ length line
blank_indent [] h = refl
blank_indent (b ∷ line) h =
    let parts = and_parts (is_white_space b) (is_blank line) h in
    rw (parts.0, blank_indent line parts.1) (one-add (length line))

drop_all : (n : ℕ) (line : List ℕ) → length line ≤ n → drop n line ≡ []
drop_all zero [] h = refl
drop_all (suc n) [] h = refl
drop_all zero (b ∷ line) h = absurd (omega arith)
drop_all (suc n) (b ∷ line) h = let less : length line ≤ n = omega arith in drop_all n line less

pub indent_removed : (line : List ℕ) (indent : ℕ) → (is_blank line ≡ false → indent ≤ indent_of line) → drop (min indent (indent_of line)) line ≡ drop indent line
indent_removed line indent fits = go (is_blank line) refl
  where
    go : (t : Bool) → is_blank line ≡ t → drop (min indent (indent_of line)) line ≡ drop indent line
    go false e = let within : indent ≤ indent_of line = fits e in let same : min indent (indent_of line) ≡ indent = omega arith in ap (λ (n : ℕ). drop n line) same
    go true e = all (cases_order indent (indent_of line))
      where
        all : (indent ≡ indent_of line) ⊎ ((indent < indent_of line) ⊎ (indent_of line < indent)) → drop (min indent (indent_of line)) line ≡ drop indent line
        all (inl is) = let same : min indent (indent_of line) ≡ indent = omega arith in ap (λ (n : ℕ). drop n line) same
        all (inr (inl lt)) = let same : min indent (indent_of line) ≡ indent = omega arith in ap (λ (n : ℕ). drop n line) same
        all (inr (inr gt)) =
            let size : indent_of line ≡ length line = blank_indent line e in
            let one : length line ≤ min indent (indent_of line) = omega arith in
            let two : length line ≤ indent = omega arith in
            drop_all _ line one ∙ sym (drop_all indent line two)

blank_dropped : (n : ℕ) (line : List ℕ) → is_blank line ≡ true → is_blank (drop n line) ≡ true
blank_dropped zero line h = h
blank_dropped (suc n) [] h = refl
blank_dropped (suc n) (b ∷ line) h = blank_dropped n line (and_parts (is_white_space b) (is_blank line) h).1

other_dropped : (n : ℕ) (line : List ℕ) → is_blank line ≡ false → n ≤ indent_of line → is_blank (drop n line) ≡ false
other_dropped zero line h within = h
other_dropped (suc n) [] h within = absurd cc
other_dropped (suc n) (b ∷ line) h within = go (is_white_space b) refl (λ rest less. other_dropped n line rest less)
  where
    go : (t : Bool) → is_white_space b ≡ t → (is_blank line ≡ false → n ≤ indent_of line → is_blank (drop n line) ≡ false) → is_blank (drop n line) ≡ false
    go true e more =
        let one : indent_of (b ∷ line) ≡ suc (indent_of line) = rw e (one-add (indent_of line)) in
        let less : n ≤ indent_of line = omega arith in
        let both : (is_white_space b && is_blank line) ≡ is_blank line = ap (λ (t : Bool). t && is_blank line) e in
        more (sym both ∙ h) less
    go false e more =
        let none : indent_of (b ∷ line) ≡ 0 = rw e refl in
        absurd (omega arith)

-- an indent of at most the common one keeps each line blank or not
blank_same : (k : ℕ) (line : List ℕ) → (is_blank line ≡ false → k ≤ indent_of line) → is_blank (drop k line) ≡ is_blank line
blank_same k line fits = go (is_blank line) refl
  where
    go : (t : Bool) → is_blank line ≡ t → is_blank (drop k line) ≡ t
    go true e = blank_dropped k line e
    go false e = other_dropped k line e (fits e)

-- the indent of the first line, and of those after it
least_at_most : (k n : ℕ) (others : Option ℕ) → k ≤ least n others → (k ≤ n) × AtMost k others
least_at_most k n None h = (h, tt)
least_at_most k n (Some m) h = (omega arith, omega arith)

pub at_most_first : (k : ℕ) (line : List ℕ) (lines : List (List ℕ)) → AtMost k (common_indent (line ∷ lines)) → is_blank line ≡ false → k ≤ indent_of line
at_most_first k line lines h blank = (least_at_most k (indent_of line) (common_indent lines) (rw blank at h)).0

pub at_most_rest : (k : ℕ) (line : List ℕ) (lines : List (List ℕ)) → AtMost k (common_indent (line ∷ lines)) → AtMost k (common_indent lines)
at_most_rest k line lines h = go (is_blank line) refl
  where
    go : (t : Bool) → is_blank line ≡ t → AtMost k (common_indent lines)
    go true e = rw e at h
    go false e = (least_at_most k (indent_of line) (common_indent lines) (rw e at h)).1

pub at_most_own : (others : Option ℕ) → AtMost (or_zero others) others
at_most_own None = tt
at_most_own (Some n) = omega arith

-- ---- blank lines at both ends, without an indent

all_same : (k : ℕ) (lines : List (List ℕ)) → AtMost k (common_indent lines) → list_all is_blank (map (drop k) lines) ≡ list_all is_blank lines
all_same k [] h = refl
all_same k (line ∷ lines) h =
    let here = blank_same k line (at_most_first k line lines h) in
    let more = all_same k lines (at_most_rest k line lines h) in
    ap (λ (t : Bool). t && list_all is_blank (map (drop k) lines)) here ∙ ap (λ (t : Bool). is_blank line && t) more

back_same : (k : ℕ) (lines : List (List ℕ)) → AtMost k (common_indent lines) → without_blank_back (map (drop k) lines) ≡ map (drop k) (without_blank_back lines)
back_same k [] h = refl
back_same k (line ∷ lines) h =
    let all : list_all is_blank (map (drop k) (line ∷ lines)) ≡ list_all is_blank (line ∷ lines) = all_same k (line ∷ lines) h in
    let more = back_same k lines (at_most_rest k line lines h) in
    ap (λ (t : Bool). cond t [] (drop k line ∷ without_blank_back (map (drop k) lines))) all
    ∙ ap (λ (ls : List (List ℕ)). cond (list_all is_blank (line ∷ lines)) [] (drop k line ∷ ls)) more
    ∙ go (list_all is_blank (line ∷ lines))
  where
    go : (t : Bool) → cond t [] (drop k line ∷ map (drop k) (without_blank_back lines)) ≡ map (drop k) (cond t [] (line ∷ without_blank_back lines))
    go true = refl
    go false = refl

front_same : (k : ℕ) (lines : List (List ℕ)) → AtMost k (common_indent lines) → without_blank_front (map (drop k) lines) ≡ map (drop k) (without_blank_front lines)
front_same k [] h = refl
front_same k (line ∷ lines) h =
    let here = blank_same k line (at_most_first k line lines h) in
    let more = front_same k lines (at_most_rest k line lines h) in
    ap (λ (t : Bool). cond t (without_blank_front (map (drop k) lines)) (drop k line ∷ map (drop k) lines)) here
    ∙ ap (λ (ls : List (List ℕ)). cond (is_blank line) ls (drop k line ∷ map (drop k) lines)) more
    ∙ go (is_blank line)
  where
    go : (t : Bool) → cond t (map (drop k) (without_blank_front lines)) (drop k line ∷ map (drop k) lines) ≡ map (drop k) (cond t (without_blank_front lines) (line ∷ lines))
    go true = refl
    go false = refl

-- where the first line is not blank, it is kept
kept_first : (line : List ℕ) (lines : List (List ℕ)) → is_blank line ≡ false → without_blank_back (line ∷ lines) ≡ line ∷ without_blank_back lines
kept_first line lines h = rw h refl

at_most_front : (k : ℕ) (lines : List (List ℕ)) → AtMost k (common_indent lines) → AtMost k (common_indent (without_blank_front lines))
at_most_front k [] h = h
at_most_front k (line ∷ lines) h = go (is_blank line) (at_most_front k lines (at_most_rest k line lines h))
  where
    go : (t : Bool) → AtMost k (common_indent (without_blank_front lines)) → AtMost k (common_indent (cond t (without_blank_front lines) (line ∷ lines)))
    go true more = more
    go false more = h

-- the first line of a front without blank ones isn't blank
pub front_first : (lines : List (List ℕ)) (line : List ℕ) (others : List (List ℕ)) → without_blank_front lines ≡ line ∷ others → is_blank line ≡ false
front_first [] line others e = absurd cc
front_first (l ∷ lines) line others e = go (is_blank l) refl e (λ is. front_first lines line others is)
  where
    go : (t : Bool) → is_blank l ≡ t → cond t (without_blank_front lines) (l ∷ lines) ≡ line ∷ others → (without_blank_front lines ≡ line ∷ others → is_blank line ≡ false) → is_blank line ≡ false
    go true h is more = more is
    go false h is more = let same : l ≡ line = cc in ap is_blank (sym same) ∙ h

formatted_kept : (k : ℕ) (lines : List (List ℕ)) → AtMost k (common_indent lines) → formatted (without_blank_back (map (drop k) (without_blank_front lines))) ≡ kept_from k (without_blank_front lines)
formatted_kept k lines h = go (without_blank_front lines) refl (at_most_front k lines h)
  where
    go : (ls : List (List ℕ)) → without_blank_front lines ≡ ls → AtMost k (common_indent ls) → formatted (without_blank_back (map (drop k) ls)) ≡ kept_from k ls
    go [] e under = refl
    go (line ∷ others) e under =
        let blank : is_blank (drop k line) ≡ false = blank_same k line (at_most_first k line others under) ∙ front_first lines line others e in
        ap formatted (kept_first (drop k line) (map (drop k) others) blank)
        ∙ ap (λ (ls : List (List ℕ)). drop k line ++ flat_map (λ l. 10 ∷ l) ls) (back_same k others (at_most_rest k line others under))

value_of_lines : (line : List ℕ) (lines : List (List ℕ)) (k : ℕ) → AtMost k (common_indent lines) → formatted (without_blank_back (without_blank_front (line ∷ map (drop k) lines))) ≡ first_kept line k lines
value_of_lines line lines k h = go (is_blank line) refl
  where
    go : (t : Bool) → is_blank line ≡ t → formatted (without_blank_back (cond t (without_blank_front (map (drop k) lines)) (line ∷ map (drop k) lines))) ≡ cond t (kept_from k (without_blank_front lines)) (line ++ further_lines k (without_blank_back lines))
    go true e = ap (λ (ls : List (List ℕ)). formatted (without_blank_back ls)) (front_same k lines h) ∙ formatted_kept k lines h
    go false e =
        ap formatted (kept_first line (map (drop k) lines) e)
        ∙ ap (λ (ls : List (List ℕ)). line ++ flat_map (λ l. 10 ∷ l) ls) (back_same k lines h)

pub value_is : (raw line following : List ℕ) → Cut raw line following → block_string_value raw ≡ first_kept line (or_zero (common_indent (lines_of following))) (lines_of following)
unfolding block_string_value lines_of
value_is raw line following (inl cut) =
    ap (λ (ls : List (List ℕ)). formatted (without_blank_back (without_blank_front (without_indent ls)))) cut
    ∙ value_of_lines line (lines_of following) (or_zero (common_indent (lines_of following))) (at_most_own (common_indent (lines_of following)))
value_is raw line following (inr cut) =
    ap (λ (ls : List (List ℕ)). formatted (without_blank_back (without_blank_front (without_indent ls)))) cut.1
    ∙ value_of_lines line [] 0 tt
    ∙ go (is_blank line)
    ∙ ap (λ (bs : List ℕ). first_kept line (or_zero (common_indent (lines_of bs))) (lines_of bs)) (sym cut.0)
  where
    go : (t : Bool) → cond t [] (line ++ []) ≡ cond t [] (line ++ [])
    go t = refl
