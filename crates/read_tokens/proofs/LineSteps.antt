-- The lines of block strings, one after the other.
use Rattle.std.proofs.Common.{◌≡◌, ℕ, suc, ◌+◌, ◌<◌, ◌≤◌, Bool, true, false, cond, ◌&&◌, ◌==◌, List, [], ◌∷◌, ◌++◌, length, take, drop, Option, Some, None, Result, Ok, Err, OnOk, refl, sym, ap, ◌∙◌, subst, inl, inr, arith, append_assoc, eqb-true}
use Rattle.std.specs.List.{list_all}
use Rattle.read_tokens.specs.Blocks.{lines_of, is_blank, indent_of, least, common_indent, without_blank_front, without_blank_back}
use Rattle.read_tokens.specs.Values.{Cut, least_indent, least_of, AtMost, kept_of, further_lines, kept_from, first_kept}
use Rattle.read_tokens.proofs.Lines.{at_most_first, at_most_rest}

-- ---- the common indent, line by line

least_least : (c i : ℕ) (others : Option ℕ) → least (least i (Some c)) others ≡ least c (Some (least i others))
least_least c i None = omega arith
least_least c i (Some n) = omega arith

least_some : (common : Option ℕ) (i : ℕ) (others : Option ℕ) → least_of (Some (least i common)) others ≡ least_of common (Some (least i others))
least_some None i others = refl
least_some (Some c) i others = ap (λ (n : ℕ). Some n) (least_least c i others)

indent_step : (line : List ℕ) (lines : List (List ℕ)) (common : Option ℕ) → least_of (least_indent line common) (common_indent lines) ≡ least_of common (common_indent (line ∷ lines))
indent_step line lines common = go (is_blank line)
  where
    go : (t : Bool) → least_of (cond t common (Some (least (indent_of line) common))) (common_indent lines) ≡ least_of common (cond t (common_indent lines) (Some (least (indent_of line) (common_indent lines))))
    go true = refl
    go false = least_some common (indent_of line) (common_indent lines)

-- after the last line nothing is left, and the empty text has one blank line
pub common_step : (left line following : List ℕ) (common : Option ℕ) → Cut left line following → least_of (least_indent line common) (common_indent (lines_of following)) ≡ least_of common (common_indent (lines_of left))
unfolding lines_of
common_step left line following common (inl cut) = indent_step line (lines_of following) common ∙ ap (λ (ls : List (List ℕ)). least_of common (common_indent ls)) (sym cut)
common_step left line following common (inr cut) =
    ap (λ (bs : List ℕ). least_of (least_indent line common) (common_indent (lines_of bs))) cut.0
    ∙ indent_step line [] common ∙ ap (λ (ls : List (List ℕ)). least_of common (common_indent ls)) (sym cut.1)

pub common_end : (left : List ℕ) (common : Option ℕ) → left ≡ [] → least_of common (common_indent (lines_of left)) ≡ common
unfolding lines_of
common_end left common e = ap (λ (bs : List ℕ). least_of common (common_indent (lines_of bs))) e ∙ go common
  where
    go : (o : Option ℕ) → least_of o None ≡ o
    go None = refl
    go (Some n) = refl

-- ---- the lines that are kept, line by line

pub none_kept : (lines : List (List ℕ)) → list_all is_blank lines ≡ true → without_blank_back lines ≡ []
none_kept [] h = refl
none_kept (line ∷ lines) h = rw h refl

pub kept_start : (lines : List (List ℕ)) → kept_of 0 0 lines ≡ length (without_blank_back lines)
kept_start lines = go (list_all is_blank lines) refl
  where
    go : (t : Bool) → list_all is_blank lines ≡ t → cond t 0 (0 + length (without_blank_back lines)) ≡ length (without_blank_back lines)
    go true e = sym (ap (λ (ls : List (List ℕ)). length ls) (none_kept lines e))
    go false e = omega arith

kept_more : (line : List ℕ) (lines : List (List ℕ)) (count kept : ℕ) → kept_of (cond (is_blank line) kept (count + 1)) (count + 1) lines ≡ kept_of kept count (line ∷ lines)
kept_more line lines count kept = go (is_blank line) (list_all is_blank lines) refl
  where
    go : (s t : Bool) → list_all is_blank lines ≡ t
        → cond t (cond s kept (count + 1)) (count + 1 + length (without_blank_back lines)) ≡ cond (s && t) kept (count + length (cond (s && t) [] (line ∷ without_blank_back lines)))
    go true true e = refl
    go true false e = omega arith
    go false true e = let none : length (without_blank_back lines) ≡ 0 = ap (λ (ls : List (List ℕ)). length ls) (none_kept lines e) in omega arith
    go false false e = omega arith

pub kept_step : (left line following : List ℕ) (count kept : ℕ) → Cut left line following → kept_of (cond (is_blank line) kept (count + 1)) (count + 1) (lines_of following) ≡ kept_of kept count (lines_of left)
unfolding lines_of
kept_step left line following count kept (inl cut) = kept_more line (lines_of following) count kept ∙ ap (kept_of kept count) (sym cut)
kept_step left line following count kept (inr cut) =
    ap (λ (bs : List ℕ). kept_of (cond (is_blank line) kept (count + 1)) (count + 1) (lines_of bs)) cut.0
    ∙ kept_more line [] count kept ∙ ap (kept_of kept count) (sym cut.1)

pub kept_end : (left : List ℕ) (count kept : ℕ) → left ≡ [] → kept_of kept count (lines_of left) ≡ kept
unfolding lines_of
kept_end left count kept e = ap (λ (bs : List ℕ). kept_of kept count (lines_of bs)) e

-- ---- the lines that are written, line by line

pub back_taken : (lines : List (List ℕ)) → take (length (without_blank_back lines)) lines ≡ without_blank_back lines
back_taken [] = refl
back_taken (line ∷ lines) = go (list_all is_blank (line ∷ lines)) (back_taken lines)
  where
    go : (t : Bool) → take (length (without_blank_back lines)) lines ≡ without_blank_back lines
        → take (length (cond t [] (line ∷ without_blank_back lines))) (line ∷ lines) ≡ cond t [] (line ∷ without_blank_back lines)
    go true more = refl
    go false more = ap (λ (ls : List (List ℕ)). line ∷ ls) more

pub back_fits : (lines : List (List ℕ)) → length (without_blank_back lines) ≤ length lines
back_fits [] = omega arith
back_fits (line ∷ lines) = go (list_all is_blank (line ∷ lines)) (back_fits lines)
  where
    go : (t : Bool) → length (without_blank_back lines) ≤ length lines → length (cond t [] (line ∷ without_blank_back lines)) ≤ suc (length lines)
    go true more = omega arith
    go false more = omega arith

-- so many lines of a text are there, and the indent fits them
pub record Ready (k n : ℕ) (text : List ℕ) : Type 0 where
  pub enough : n ≤ length (lines_of text)
  pub under : AtMost k (common_indent (lines_of text))

pub ready_start : (k : ℕ) (text : List ℕ) → AtMost k (common_indent (lines_of text)) → Ready k (length (without_blank_back (lines_of text))) text
ready_start k text under = record { enough = back_fits (lines_of text); under = under }

pub ready_first : (k n : ℕ) (text line following : List ℕ) → Cut text line following → Ready k n text → is_blank line ≡ false → k ≤ indent_of line
ready_first k n text line following (inl cut) ready = at_most_first k line (lines_of following) (subst (λ (ls : List (List ℕ)). AtMost k (common_indent ls)) cut ready.under)
ready_first k n text line following (inr cut) ready = at_most_first k line [] (subst (λ (ls : List (List ℕ)). AtMost k (common_indent ls)) cut.1 ready.under)

pub ready_more : (k n m : ℕ) (text line following : List ℕ) → Cut text line following → n ≡ suc m → Ready k n text → Ready k m following
unfolding lines_of
ready_more k n m text line following (inl cut) e ready =
    let fits : n ≤ suc (length (lines_of following)) = subst (λ (ls : List (List ℕ)). n ≤ length ls) cut ready.enough in
    record { enough = omega arith; under = at_most_rest k line (lines_of following) (subst (λ (ls : List (List ℕ)). AtMost k (common_indent ls)) cut ready.under) }
ready_more k n m text line following (inr cut) e ready =
    let fits : n ≤ 1 = subst (λ (ls : List (List ℕ)). n ≤ length ls) cut.1 ready.enough in
    subst (Ready k m) (sym cut.0) (record { enough = omega arith; under = tt })

pub further_more : (k n m : ℕ) (text line following : List ℕ) → Cut text line following → n ≡ suc m → Ready k n text
    → further_lines k (take n (lines_of text)) ≡ (10 ∷ drop k line) ++ further_lines k (take m (lines_of following))
further_more k n m text line following (inl cut) e ready = ap (λ (ls : List (List ℕ)). further_lines k (take n ls)) cut ∙ ap (λ (i : ℕ). further_lines k (take i (line ∷ lines_of following))) e
further_more k n m text line following (inr cut) e ready =
    let fits : n ≤ 1 = subst (λ (ls : List (List ℕ)). n ≤ length ls) cut.1 ready.enough in
    let none : m ≡ 0 = omega arith in
    ap (λ (ls : List (List ℕ)). further_lines k (take n ls)) cut.1 ∙ ap (λ (i : ℕ). further_lines k (take i (line ∷ []))) (e ∙ ap suc none)
    ∙ ap (λ (i : ℕ). (10 ∷ drop k line) ++ further_lines k (take i (lines_of following))) (sym none)

-- a blank line at the front is passed over
pub front_step : (k : ℕ) (text line following : List ℕ) → Cut text line following → is_blank line ≡ true → kept_from k (without_blank_front (lines_of following)) ≡ kept_from k (without_blank_front (lines_of text))
unfolding lines_of
front_step k text line following (inl cut) blank = sym (ap (λ (ls : List (List ℕ)). kept_from k (without_blank_front ls)) cut ∙ rw blank refl)
front_step k text line following (inr cut) blank =
    ap (λ (bs : List ℕ). kept_from k (without_blank_front (lines_of bs))) cut.0
    ∙ sym (ap (λ (ls : List (List ℕ)). kept_from k (without_blank_front ls)) cut.1 ∙ rw blank refl)

pub front_end : (k : ℕ) (text : List ℕ) → text ≡ [] → kept_from k (without_blank_front (lines_of text)) ≡ []
unfolding lines_of
front_end k text e = ap (λ (bs : List ℕ). kept_from k (without_blank_front (lines_of bs))) e

-- the first line that is kept, and those after it
pub front_here : (k : ℕ) (text line following : List ℕ) → Cut text line following → is_blank line ≡ false
    → kept_from k (without_blank_front (lines_of text)) ≡ drop k line ++ further_lines k (without_blank_back (lines_of following))
unfolding lines_of
front_here k text line following (inl cut) full = ap (λ (ls : List (List ℕ)). kept_from k (without_blank_front ls)) cut ∙ rw full refl
front_here k text line following (inr cut) full =
    let here : kept_from k (without_blank_front (line ∷ [])) ≡ drop k line ++ [] = rw full refl in
    ap (λ (ls : List (List ℕ)). kept_from k (without_blank_front ls)) cut.1 ∙ here
    ∙ ap (λ (bs : List ℕ). drop k line ++ further_lines k (without_blank_back (lines_of bs))) (sym cut.0)

pub under_after : (k : ℕ) (text line following : List ℕ) → Cut text line following → AtMost k (common_indent (lines_of text)) → AtMost k (common_indent (lines_of following))
unfolding lines_of
under_after k text line following (inl cut) under = at_most_rest k line (lines_of following) (subst (λ (ls : List (List ℕ)). AtMost k (common_indent ls)) cut under)
under_after k text line following (inr cut) under = subst (λ (bs : List ℕ). AtMost k (common_indent (lines_of bs))) (sym cut.0) tt

-- ---- tests of bytes

pub empty_is : (bytes : List ℕ) → (length bytes == 0) ≡ true → bytes ≡ []
empty_is [] h = refl
empty_is (b ∷ bytes) h = let e : length (b ∷ bytes) ≡ 0 = eqb-true (length (b ∷ bytes)) 0 h in absurd (omega arith)

pub full_is : (bytes : List ℕ) → (length bytes == 0) ≡ false → 0 < length bytes
full_is [] h = absurd cc
full_is (b ∷ bytes) h = omega arith

pub fits_more : (count left following all : ℕ) → count + left ≤ all → following < left → (count + 1) + following ≤ all
fits_more count left following all h less = omega arith

pub fits_none : (n : ℕ) → 0 + n ≤ n
fits_none n = omega arith

pub on_ok_then : {A E : Type 0} (r : Result A E) (P Q : Type 0) → OnOk r P → (P → Q) → OnOk r Q
on_ok_then (Ok x) P Q h f = f h
on_ok_then (Err e) P Q h f = h

-- what is added, then what comes after it
pub added : (new old before front more all : List ℕ) → new ≡ old ++ more → old ≡ before ++ front → all ≡ front ++ more → new ≡ before ++ all
added new old before front more all a b c =
    a ∙ ap (λ (xs : List ℕ). xs ++ more) b ∙ append_assoc before front more ∙ ap (λ (xs : List ℕ). before ++ xs) (sym c)

pub blank_value : (line : List ℕ) (k : ℕ) (lines : List (List ℕ)) → is_blank line ≡ true → first_kept line k lines ≡ kept_from k (without_blank_front lines)
blank_value line k lines blank = rw blank refl

pub full_value : (line : List ℕ) (k : ℕ) (lines : List (List ℕ)) → is_blank line ≡ false → first_kept line k lines ≡ line ++ further_lines k (without_blank_back lines)
full_value line k lines full = rw full refl
