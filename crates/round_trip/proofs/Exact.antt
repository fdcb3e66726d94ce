-- What a block string stands for whose first line is empty: nothing, or a text that can be a block string.
use Rattle.std.proofs.Common.{◌≡◌, ◌⊎◌, ℕ, zero, suc, ◌+◌, ◌<◌, min, Bool, true, false, cond, ◌&&◌, ◌||◌, ◌==◌, List, [], ◌∷◌, ◌++◌, map, drop, Option, Some, None, refl, sym, ap, ◌∙◌, subst, inl, inr, arith, append-nil, one-add}
use Rattle.std.specs.List.{list_all, list_any, onto_first, flat_map}
use Rattle.std.proofs.lemmas.Bool.{and_parts, and_from, cases_order}
use Rattle.std.proofs.lemmas.Grind.{common_steps}
use Rattle.tree_literals.specs.StringLayout.{text_lines, has_byte, is_at_margin, first_is_blank, last_is_blank, can_be_block_string}
use Rattle.read_tokens.specs.Bytes.{begins_by}
use Rattle.read_tokens.specs.Tokens.{is_in_line}
use Rattle.read_tokens.specs.Blocks.{ends_line, is_line_feed, lines_of, is_white_space, is_blank, indent_of, least, common_indent, or_zero, without_indent, without_blank_front, without_blank_back, formatted, block_string_value, block_value, raw_value}
use Rattle.read_tokens.specs.Blocks as b
use Rattle.round_trip.proofs.RawLines.{in_line}

abbrev Lines : Type 0
Lines = List (List ℕ)

-- ---- no line holds a byte that ends lines

onto_kept : (x : ℕ) (lines : Lines) → is_in_line x ≡ true → list_all in_line lines ≡ true → list_all in_line (b.onto_first x lines) ≡ true
onto_kept x [] h all = refl
onto_kept x (line ∷ lines) h all = rw h all

pub all_in_line : (bytes : List ℕ) → list_all in_line (lines_of bytes) ≡ true
unfolding lines_of
all_in_line [] = refl
all_in_line (x ∷ bytes) = go (x == 10) (x == 13) (begins_by is_line_feed bytes) refl refl refl (all_in_line bytes)
  where
    go : (s t e : Bool) → (x == 10) ≡ s → (x == 13) ≡ t → begins_by is_line_feed bytes ≡ e → list_all in_line (lines_of bytes) ≡ true → list_all in_line (lines_of (x ∷ bytes)) ≡ true
    go true t e es et ee more = rw es more
    go false true true es et ee more = rw (es, et, ee) more
    go false true false es et ee more = rw (es, et, ee) more
    go false false e es et ee more = rw (es, et) (onto_kept x (lines_of bytes) (rw (es, et) refl) more)

drop_kept : (k : ℕ) (line : List ℕ) → in_line line ≡ true → in_line (drop k line) ≡ true
drop_kept zero line h = h
drop_kept (suc k) [] h = refl
drop_kept (suc k) (x ∷ line) h = drop_kept k line (and_parts (is_in_line x) (in_line line) h).1

dropped_kept : (k : ℕ) (lines : Lines) → list_all in_line lines ≡ true → list_all in_line (map (drop k) lines) ≡ true
dropped_kept k [] h = refl
dropped_kept k (line ∷ lines) h =
    let parts = and_parts (in_line line) (list_all in_line lines) h in
    and_from (in_line (drop k line)) (list_all in_line (map (drop k) lines)) (drop_kept k line parts.0) (dropped_kept k lines parts.1)

front_kept : (lines : Lines) → list_all in_line lines ≡ true → list_all in_line (without_blank_front lines) ≡ true
front_kept [] h = refl
front_kept (line ∷ lines) h = go (is_blank line) (front_kept lines (and_parts (in_line line) (list_all in_line lines) h).1)
  where
    go : (t : Bool) → list_all in_line (without_blank_front lines) ≡ true → list_all in_line (cond t (without_blank_front lines) (line ∷ lines)) ≡ true
    go true more = more
    go false more = h

back_kept : (lines : Lines) → list_all in_line lines ≡ true → list_all in_line (without_blank_back lines) ≡ true
back_kept [] h = refl
back_kept (line ∷ lines) h = go (list_all is_blank (line ∷ lines)) (back_kept lines parts.1)
  where
    parts : (in_line line ≡ true) × (list_all in_line lines ≡ true)
    parts = and_parts (in_line line) (list_all in_line lines) h

    go : (t : Bool) → list_all in_line (without_blank_back lines) ≡ true → list_all in_line (cond t [] (line ∷ without_blank_back lines)) ≡ true
    go true more = refl
    go false more = and_from (in_line line) (list_all in_line (without_blank_back lines)) parts.0 more

-- ---- lines together, and apart again

not_feed : (x : ℕ) → is_in_line x ≡ true → (x == 10) ≡ false
not_feed x h = grind (arith, common_steps)

split_more : (line rest : List ℕ) → in_line line ≡ true → text_lines (line ++ 10 ∷ rest) ≡ line ∷ text_lines rest
split_more [] rest h = refl
split_more (x ∷ line) rest h =
    let parts = and_parts (is_in_line x) (in_line line) h in
    let other : (x == 10) ≡ false = not_feed x parts.0 in
    rw other (ap (onto_first x) (split_more line rest parts.1))

split_last : (line : List ℕ) → in_line line ≡ true → text_lines line ≡ line ∷ []
split_last [] h = refl
split_last (x ∷ line) h =
    let parts = and_parts (is_in_line x) (in_line line) h in
    let other : (x == 10) ≡ false = not_feed x parts.0 in
    rw other (ap (onto_first x) (split_last line parts.1))

split_formatted : (line : List ℕ) (lines : Lines) → list_all in_line (line ∷ lines) ≡ true → text_lines (formatted (line ∷ lines)) ≡ line ∷ lines
split_formatted line [] h = ap text_lines (append-nil line) ∙ split_last line (and_parts (in_line line) true h).0
split_formatted line (next ∷ lines) h =
    let parts = and_parts (in_line line) (list_all in_line (next ∷ lines)) h in
    split_more line (formatted (next ∷ lines)) parts.0 ∙ ap (λ (ls : Lines). line ∷ ls) (split_formatted next lines parts.1)

none_both : (xs ys : List ℕ) → has_byte 13 xs ≡ false → has_byte 13 ys ≡ false → has_byte 13 (xs ++ ys) ≡ false
none_both [] ys h others = others
none_both (x ∷ xs) ys h others = go (x == 13) h (none_both xs ys)
  where
    go : (t : Bool) → (t || has_byte 13 xs) ≡ false → (has_byte 13 xs ≡ false → has_byte 13 ys ≡ false → has_byte 13 (xs ++ ys) ≡ false) → (t || has_byte 13 (xs ++ ys)) ≡ false
    go true h more = absurd cc
    go false h more = more h others

line_no_return : (line : List ℕ) → in_line line ≡ true → has_byte 13 line ≡ false
line_no_return [] h = refl
line_no_return (x ∷ line) h =
    let parts = and_parts (is_in_line x) (in_line line) h in
    rw (other x parts.0) (line_no_return line parts.1)
  where
    other : (x : ℕ) → is_in_line x ≡ true → (x == 13) ≡ false
    other x h = grind (arith, common_steps)

feeds_no_return : (lines : Lines) → list_all in_line lines ≡ true → has_byte 13 (flat_map (λ line. 10 ∷ line) lines) ≡ false
feeds_no_return [] h = refl
feeds_no_return (line ∷ lines) h =
    let parts = and_parts (in_line line) (list_all in_line lines) h in
    none_both line (flat_map (λ l. 10 ∷ l) lines) (line_no_return line parts.0) (feeds_no_return lines parts.1)

no_return : (lines : Lines) → list_all in_line lines ≡ true → has_byte 13 (formatted lines) ≡ false
no_return [] h = refl
no_return (line ∷ lines) h =
    let parts = and_parts (in_line line) (list_all in_line lines) h in
    none_both line (flat_map (λ l. 10 ∷ l) lines) (line_no_return line parts.0) (feeds_no_return lines parts.1)

-- ---- the margin

abbrev AnyAtMargin : Lines → Type 0
AnyAtMargin lines = list_any is_at_margin lines ≡ true

any_after : (t : Bool) (lines : Lines) → AnyAtMargin lines → (t || list_any is_at_margin lines) ≡ true
any_after true lines h = refl
any_after false lines h = h

any_here : (t u : Bool) → t ≡ true → (t || u) ≡ true
any_here true u h = refl
any_here false u h = absurd cc

own_margin : (line : List ℕ) → is_blank line ≡ false → is_at_margin (drop (indent_of line) line) ≡ true
own_margin [] h = absurd cc
own_margin (x ∷ line) h = go (is_white_space x) refl h (own_margin line)
  where
    go : (t : Bool) → is_white_space x ≡ t → (t && is_blank line) ≡ false → (is_blank line ≡ false → is_at_margin (drop (indent_of line) line) ≡ true) → is_at_margin (drop (cond t (1 + indent_of line) 0) (x ∷ line)) ≡ true
    go true e h more = rw one-add (more h)
    go false e h more = rw e refl

-- without it the line with the least indent is at the margin
margin_reached : (k : ℕ) (lines : Lines) → common_indent lines ≡ Some k → AnyAtMargin (map (drop k) lines)
margin_reached k [] h = absurd cc
margin_reached k (line ∷ lines) h = go (is_blank line) refl h (margin_reached k lines)
  where
    least_here : (others : Option ℕ) → common_indent lines ≡ others → is_blank line ≡ false → Some (least (indent_of line) others) ≡ Some k
        → (common_indent lines ≡ Some k → AnyAtMargin (map (drop k) lines)) → AnyAtMargin (map (drop k) (line ∷ lines))
    least_here None e blank h more =
        let is : indent_of line ≡ k = cc in
        any_here (is_at_margin (drop k line)) (list_any is_at_margin (map (drop k) lines)) (subst (λ (n : ℕ). is_at_margin (drop n line) ≡ true) is (own_margin line blank))
    least_here (Some m) e blank h more = order (cases_order (indent_of line) m)
      where
        lowest : min (indent_of line) m ≡ k
        lowest = cc

        order : (indent_of line ≡ m) ⊎ ((indent_of line < m) ⊎ (m < indent_of line)) → AnyAtMargin (map (drop k) (line ∷ lines))
        order (inl is) =
            let own : indent_of line ≡ k = omega (arith, lowest) in
            any_here (is_at_margin (drop k line)) (list_any is_at_margin (map (drop k) lines)) (subst (λ (n : ℕ). is_at_margin (drop n line) ≡ true) own (own_margin line blank))
        order (inr (inl less)) =
            let own : indent_of line ≡ k = omega (arith, lowest) in
            any_here (is_at_margin (drop k line)) (list_any is_at_margin (map (drop k) lines)) (subst (λ (n : ℕ). is_at_margin (drop n line) ≡ true) own (own_margin line blank))
        order (inr (inr more_than)) =
            let other : m ≡ k = omega (arith, lowest) in
            any_after (is_at_margin (drop k line)) (map (drop k) lines) (more (e ∙ ap Some other))

    go : (t : Bool) → is_blank line ≡ t → cond t (common_indent lines) (Some (least (indent_of line) (common_indent lines))) ≡ Some k
        → (common_indent lines ≡ Some k → AnyAtMargin (map (drop k) lines)) → AnyAtMargin (map (drop k) (line ∷ lines))
    go true blank h more = any_after (is_at_margin (drop k line)) (map (drop k) lines) (more h)
    go false blank h more = least_here (common_indent lines) refl blank h more

none_left : (lines : Lines) → common_indent lines ≡ None → without_blank_front (map (drop 0) lines) ≡ []
none_left [] h = refl
none_left (line ∷ lines) h = go (is_blank line) h (none_left lines)
  where
    go : (t : Bool) → cond t (common_indent lines) (Some (least (indent_of line) (common_indent lines))) ≡ None
        → (common_indent lines ≡ None → without_blank_front (map (drop 0) lines) ≡ []) → cond t (without_blank_front (map (drop 0) lines)) (line ∷ map (drop 0) lines) ≡ []
    go true h more = more h
    go false h more = absurd cc

blank_margin : (line : List ℕ) → is_blank line ≡ true → is_at_margin line ≡ false
blank_margin [] h = refl
blank_margin (x ∷ line) h = rw ((and_parts (is_white_space x) (is_blank line) h).0) refl

blanks_margin : (lines : Lines) → list_all is_blank lines ≡ true → list_any is_at_margin lines ≡ false
blanks_margin [] h = refl
blanks_margin (line ∷ lines) h =
    let parts = and_parts (is_blank line) (list_all is_blank lines) h in
    rw (blank_margin line parts.0) (blanks_margin lines parts.1)

front_margin : (lines : Lines) → AnyAtMargin lines → AnyAtMargin (without_blank_front lines)
front_margin [] h = h
front_margin (line ∷ lines) h = go (is_blank line) refl (front_margin lines)
  where
    go : (t : Bool) → is_blank line ≡ t → (AnyAtMargin lines → AnyAtMargin (without_blank_front lines)) → AnyAtMargin (cond t (without_blank_front lines) (line ∷ lines))
    go true e more = more (rw (blank_margin line e) at h)
    go false e more = h

back_margin : (lines : Lines) → AnyAtMargin lines → AnyAtMargin (without_blank_back lines)
back_margin [] h = h
back_margin (line ∷ lines) h = go (list_all is_blank (line ∷ lines)) refl (back_margin lines)
  where
    further : (t : Bool) → (t || list_any is_at_margin lines) ≡ true → (AnyAtMargin lines → AnyAtMargin (without_blank_back lines)) → (t || list_any is_at_margin (without_blank_back lines)) ≡ true
    further true h more = refl
    further false h more = more h

    go : (t : Bool) → list_all is_blank (line ∷ lines) ≡ t → (AnyAtMargin lines → AnyAtMargin (without_blank_back lines)) → AnyAtMargin (cond t [] (line ∷ without_blank_back lines))
    go true e more = let none : list_any is_at_margin (line ∷ lines) ≡ false = blanks_margin (line ∷ lines) e in absurd cc
    go false e more = further (is_at_margin line) h more

-- ---- the first line and the last

first_left : (lines : Lines) → (without_blank_front lines ≡ []) ⊎ (first_is_blank (without_blank_front lines) ≡ false)
first_left [] = inl refl
first_left (line ∷ lines) = go (is_blank line) refl (first_left lines)
  where
    go : (t : Bool) → is_blank line ≡ t → (without_blank_front lines ≡ []) ⊎ (first_is_blank (without_blank_front lines) ≡ false)
        → (cond t (without_blank_front lines) (line ∷ lines) ≡ []) ⊎ (first_is_blank (cond t (without_blank_front lines) (line ∷ lines)) ≡ false)
    go true e more = more
    go false e more = inr e

first_stays : (lines : Lines) → first_is_blank lines ≡ false → first_is_blank (without_blank_back lines) ≡ false
first_stays [] h = h
first_stays (line ∷ lines) h = rw h h

nothing_left : (lines : Lines) → without_blank_back lines ≡ [] → list_all is_blank lines ≡ true
nothing_left [] h = refl
nothing_left (line ∷ lines) h = go (list_all is_blank (line ∷ lines)) h
  where
    go : (t : Bool) → cond t [] (line ∷ without_blank_back lines) ≡ [] → t ≡ true
    go true h = refl
    go false h = absurd cc

last_left : (lines : Lines) → (without_blank_back lines ≡ []) ⊎ (last_is_blank (without_blank_back lines) ≡ false)
last_left [] = inl refl
last_left (line ∷ lines) = go (list_all is_blank (line ∷ lines)) refl (last_left lines)
  where
    following : (others : Lines) → last_is_blank others ≡ false → last_is_blank (line ∷ others) ≡ false
    following [] h = absurd cc
    following (next ∷ others) h = h

    alone : (t : Bool) → is_blank line ≡ t → list_all is_blank (line ∷ lines) ≡ false → without_blank_back lines ≡ [] → last_is_blank (line ∷ without_blank_back lines) ≡ false
    alone true e some none = let both : list_all is_blank (line ∷ lines) ≡ true = and_from (is_blank line) (list_all is_blank lines) e (nothing_left lines none) in absurd cc
    alone false e some none = rw none e

    go : (t : Bool) → list_all is_blank (line ∷ lines) ≡ t → (without_blank_back lines ≡ []) ⊎ (last_is_blank (without_blank_back lines) ≡ false)
        → (cond t [] (line ∷ without_blank_back lines) ≡ []) ⊎ (last_is_blank (cond t [] (line ∷ without_blank_back lines)) ≡ false)
    go true e more = inl refl
    go false e (inl none) = inr (alone (is_blank line) refl e none)
    go false e (inr last) = inr (following (without_blank_back lines) last)

-- ---- the value

can_be_from : (text : List ℕ) (lines : Lines) → text_lines text ≡ lines → has_byte 13 text ≡ false → first_is_blank lines ≡ false → last_is_blank lines ≡ false → AnyAtMargin lines → can_be_block_string text ≡ true
can_be_from text lines e return first last margin = rw (return, e, first, last, margin) refl

-- nothing, or a text that can be a block string
abbrev pub Either : List ℕ → Type 0
Either text = (text ≡ []) ⊎ (can_be_block_string text ≡ true)

lines_can_be : (lines : Lines) → list_all in_line lines ≡ true → AnyAtMargin lines → Either (formatted (without_blank_back (without_blank_front lines)))
lines_can_be lines all margin = front (first_left lines)
  where
    made : (ls : Lines) → without_blank_back (without_blank_front lines) ≡ ls → first_is_blank ls ≡ false → last_is_blank ls ≡ false → Either (formatted ls)
    made [] e first last = absurd cc
    made (line ∷ others) e first last =
        let inside : list_all in_line (line ∷ others) ≡ true = ap (list_all in_line) (sym e) ∙ back_kept (without_blank_front lines) (front_kept lines all) in
        let any : AnyAtMargin (line ∷ others) = ap (list_any is_at_margin) (sym e) ∙ back_margin (without_blank_front lines) (front_margin lines margin) in
        inr (can_be_from (formatted (line ∷ others)) (line ∷ others) (split_formatted line others inside) (no_return (line ∷ others) inside) first last any)

    back : first_is_blank (without_blank_front lines) ≡ false → (without_blank_back (without_blank_front lines) ≡ []) ⊎ (last_is_blank (without_blank_back (without_blank_front lines)) ≡ false) → Either (formatted (without_blank_back (without_blank_front lines)))
    back first (inl none) = inl (ap formatted none)
    back first (inr last) = made (without_blank_back (without_blank_front lines)) refl (first_stays (without_blank_front lines) first) last

    front : (without_blank_front lines ≡ []) ⊎ (first_is_blank (without_blank_front lines) ≡ false) → Either (formatted (without_blank_back (without_blank_front lines)))
    front (inl none) = inl (ap (λ (ls : Lines). formatted (without_blank_back ls)) none)
    front (inr first) = back first (last_left (without_blank_front lines))

-- What a block string stands for whose first line is empty is nothing, or can be a block string.
pub value_can_be : (following : List ℕ) → Either (block_string_value (10 ∷ following))
unfolding block_string_value lines_of
value_can_be following = go (common_indent (lines_of following)) refl
  where
    go : (o : Option ℕ) → common_indent (lines_of following) ≡ o → Either (formatted (without_blank_back (without_blank_front (map (drop (or_zero o)) (lines_of following)))))
    go None e = inl (ap (λ (ls : Lines). formatted (without_blank_back ls)) (none_left (lines_of following) e))
    go (Some k) e = lines_can_be (map (drop k) (lines_of following)) (dropped_kept k (lines_of following) (all_in_line following)) (margin_reached k (lines_of following) e)
