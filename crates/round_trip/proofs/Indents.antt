-- The lines of a printed block string without their indent, and without the blank lines at both ends.
use Rattle.std.proofs.Common.{◌≡◌, ℕ, ◌+◌, ◌≤◌, min, Bool, true, false, cond, ◌||◌, ◌==◌, List, [], ◌∷◌, ◌++◌, length, map, drop, Option, Some, None, refl, ap, ◌∙◌, arith, eqb-true}
use Rattle.std.specs.List.{list_all, list_any, onto_first, flat_map}
use Rattle.std.proofs.lemmas.Bool.{and_parts, and_left, and_right, not-true}
use Rattle.std.proofs.lemmas.List.{drop_at, drop_all}
use Rattle.tree_literals.specs.StringLayout.{text_lines, is_at_margin, first_is_blank, last_is_blank}
use Rattle.read_tokens.specs.Blocks.{is_white_space, is_blank, indent_of, least, common_indent, or_zero, without_indent, without_blank_front, without_blank_back, formatted}
use Rattle.read_tokens.specs.Values.{AtMost}
use Rattle.round_trip.proofs.Written.{indented}

abbrev indented_all : List ℕ → List (List ℕ) → List (List ℕ)
indented_all start lines = map (indented start) lines ++ start ∷ []

-- ---- one line after white space

white_indent : (white line : List ℕ) → list_all is_white_space white ≡ true → indent_of (white ++ line) ≡ length white + indent_of line
white_indent [] line h = omega arith
white_indent (b ∷ white) line h =
    let parts = and_parts (is_white_space b) (list_all is_white_space white) h in
    let more : indent_of (white ++ line) ≡ length white + indent_of line = white_indent white line parts.1 in
    rw (parts.0) (omega arith)

white_blank : (white line : List ℕ) → list_all is_white_space white ≡ true → is_blank (white ++ line) ≡ is_blank line
white_blank [] line h = refl
white_blank (b ∷ white) line h =
    let parts = and_parts (is_white_space b) (list_all is_white_space white) h in
    rw (parts.0) (white_blank white line parts.1)

indented_blank : (start line : List ℕ) → list_all is_white_space start ≡ true → is_blank (indented start line) ≡ is_blank line
indented_blank start [] h = refl
indented_blank start (b ∷ line) h = white_blank start (b ∷ line) h

indented_indent : (start line : List ℕ) → list_all is_white_space start ≡ true → is_blank line ≡ false → indent_of (indented start line) ≡ length start + indent_of line
indented_indent start [] h some = absurd cc
indented_indent start (b ∷ line) h some = white_indent start (b ∷ line) h

margin_indent : (line : List ℕ) → is_at_margin line ≡ true → (is_blank line ≡ false) × (indent_of line ≡ 0)
margin_indent [] h = absurd cc
margin_indent (b ∷ line) h =
    let other : is_white_space b ≡ false = not-true (is_white_space b) h in
    (and_left (is_white_space b) (is_blank line) other, rw other refl)

-- ---- the common indent

least_kept : (k n : ℕ) (others : Option ℕ) → k ≤ n → AtMost k others → AtMost k (Some (least n others))
least_kept k n None h more = h
least_kept k n (Some m) h more = omega arith

-- all lines have the white space in front, but blank ones
pub all_within : (start : List ℕ) (lines : List (List ℕ)) → list_all is_white_space start ≡ true → AtMost (length start) (common_indent (indented_all start lines))
all_within start [] h = rw h tt
all_within start (line ∷ lines) h = go (is_blank line) refl (all_within start lines h)
  where
    go : (t : Bool) → is_blank line ≡ t → AtMost (length start) (common_indent (indented_all start lines)) → AtMost (length start) (common_indent (indented_all start (line ∷ lines)))
    go true e more = let blank : is_blank (indented start line) ≡ true = indented_blank start line h ∙ e in rw blank more
    go false e more =
        let other : is_blank (indented start line) ≡ false = indented_blank start line h ∙ e in
        let indent : indent_of (indented start line) ≡ length start + indent_of line = indented_indent start line h e in
        rw other (least_kept (length start) (indent_of (indented start line)) (common_indent (indented_all start lines)) (omega arith) more)

least_own : (n : ℕ) (others : Option ℕ) → AtMost n others → least n others ≡ n
least_own n None h = refl
least_own n (Some m) h = omega arith

-- if a line is at the margin, that white space is the common indent
pub common_is : (start : List ℕ) (lines : List (List ℕ)) → list_all is_white_space start ≡ true → list_any is_at_margin lines ≡ true → common_indent (indented_all start lines) ≡ Some (length start)
common_is start [] h some = absurd cc
common_is start (line ∷ lines) h some = go (is_at_margin line) refl some (common_is start lines h)
  where
    further : (t : Bool) → is_blank line ≡ t → common_indent (indented_all start lines) ≡ Some (length start) → common_indent (indented_all start (line ∷ lines)) ≡ Some (length start)
    further true e more = let blank : is_blank (indented start line) ≡ true = indented_blank start line h ∙ e in rw blank more
    further false e more =
        let other : is_blank (indented start line) ≡ false = indented_blank start line h ∙ e in
        let indent : indent_of (indented start line) ≡ length start + indent_of line = indented_indent start line h e in
        let lowest : min (indent_of (indented start line)) (length start) ≡ length start = omega arith in
        rw (other, more) (ap Some lowest)

    go : (t : Bool) → is_at_margin line ≡ t → (t || list_any is_at_margin lines) ≡ true → (list_any is_at_margin lines ≡ true → common_indent (indented_all start lines) ≡ Some (length start)) → common_indent (indented_all start (line ∷ lines)) ≡ Some (length start)
    go true e any more =
        let at = margin_indent line e in
        let other : is_blank (indented start line) ≡ false = indented_blank start line h ∙ at.0 in
        let indent : indent_of (indented start line) ≡ length start + indent_of line = indented_indent start line h at.0 in
        let none : indent_of line ≡ 0 = at.1 in
        let own : indent_of (indented start line) ≡ length start = omega arith in
        rw (other, own) (ap Some (least_own (length start) (common_indent (indented_all start lines)) (all_within start lines h)))
    go false e any more = further (is_blank line) refl (more any)

indent_dropped : (start line : List ℕ) → drop (length start) (indented start line) ≡ line
indent_dropped start [] = drop_all (length start) [] (omega arith)
indent_dropped start (b ∷ line) = drop_at start (b ∷ line) (length start) refl

all_dropped : (start : List ℕ) (lines : List (List ℕ)) → map (drop (length start)) (indented_all start lines) ≡ lines ++ [] ∷ []
all_dropped start [] = ap (λ (line : List ℕ). line ∷ []) (drop_all (length start) start (omega arith))
all_dropped start (line ∷ lines) =
    ap (λ (l : List ℕ). l ∷ map (drop (length start)) (indented_all start lines)) (indent_dropped start line)
    ∙ ap (λ (ls : List (List ℕ)). line ∷ ls) (all_dropped start lines)

pub indent_removed : (start : List ℕ) (lines : List (List ℕ)) → list_all is_white_space start ≡ true → list_any is_at_margin lines ≡ true → without_indent ([] ∷ indented_all start lines) ≡ [] ∷ (lines ++ [] ∷ [])
indent_removed start lines h some =
    ap (λ (n : Option ℕ). [] ∷ map (drop (or_zero n)) (indented_all start lines)) (common_is start lines h some)
    ∙ ap (λ (ls : List (List ℕ)). [] ∷ ls) (all_dropped start lines)

-- ---- blank lines at both ends

front_kept : (lines following : List (List ℕ)) → first_is_blank lines ≡ false → without_blank_front (lines ++ following) ≡ lines ++ following
front_kept [] following h = absurd cc
front_kept (line ∷ lines) following h = rw h refl

not_all : (lines following : List (List ℕ)) → last_is_blank lines ≡ false → list_all is_blank (lines ++ following) ≡ false
not_all [] following h = absurd cc
not_all (line ∷ []) following h = and_left (is_blank line) (list_all is_blank following) h
not_all (line ∷ next ∷ lines) following h = and_right (is_blank line) (list_all is_blank ((next ∷ lines) ++ following)) (not_all (next ∷ lines) following h)

back_kept : (lines : List (List ℕ)) → last_is_blank lines ≡ false → without_blank_back (lines ++ [] ∷ []) ≡ lines
back_kept [] h = absurd cc
back_kept (line ∷ []) h = rw (not_all (line ∷ []) ([] ∷ []) h) refl
back_kept (line ∷ next ∷ lines) h = rw (not_all (line ∷ next ∷ lines) ([] ∷ []) h) (ap (λ (ls : List (List ℕ)). line ∷ ls) (back_kept (next ∷ lines) h))

-- the last marks' line and the first marks' line are removed, and nothing else
pub ends_removed : (lines : List (List ℕ)) → first_is_blank lines ≡ false → last_is_blank lines ≡ false → without_blank_back (without_blank_front ([] ∷ (lines ++ [] ∷ []))) ≡ lines
ends_removed lines first last = ap without_blank_back (front_kept lines ([] ∷ []) first) ∙ back_kept lines last

-- ---- lines together

abbrev after_feeds : List (List ℕ) → List ℕ
after_feeds lines = flat_map (λ line. 10 ∷ line) lines

-- the lines of a text, each after a line feed: one line feed more than the text
feeds_are : (text : List ℕ) → after_feeds (text_lines text) ≡ 10 ∷ text
feeds_are [] = refl
feeds_are (x ∷ text) = go (x == 10) refl (feeds_are text)
  where
    onto : (lines : List (List ℕ)) → after_feeds lines ≡ 10 ∷ text → after_feeds (onto_first x lines) ≡ 10 ∷ x ∷ text
    onto [] e = absurd cc
    onto (line ∷ lines) e = let same : line ++ after_feeds lines ≡ text = cc in ap (λ (t : List ℕ). 10 ∷ x ∷ t) same

    go : (t : Bool) → (x == 10) ≡ t → after_feeds (text_lines text) ≡ 10 ∷ text → after_feeds (cond t ([] ∷ text_lines text) (onto_first x (text_lines text))) ≡ 10 ∷ x ∷ text
    go true e more = let is : x ≡ 10 = eqb-true x 10 e in rw is (ap (λ (t : List ℕ). 10 ∷ t) more)
    go false e more = onto (text_lines text) more

pub formatted_is : (text : List ℕ) → formatted (text_lines text) ≡ text
formatted_is text = go (text_lines text) (feeds_are text)
  where
    go : (lines : List (List ℕ)) → after_feeds lines ≡ 10 ∷ text → formatted lines ≡ text
    go [] e = absurd cc
    go (line ∷ lines) e = cc
