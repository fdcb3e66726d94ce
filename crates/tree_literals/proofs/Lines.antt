-- The first and the last line of a text, and lines one by one.
use Rattle.std.specs.Borrow.{Bor}
use Rattle.std.proofs.Common.{◌≡◌, ℕ, suc, ◌+◌, ◌==◌, List, [], ◌∷◌, ◌++◌, length, map, take, Bool, true, false, not, cond, ◌||◌, ◌&&◌, refl, sym, ap, ◌∙◌, arith}
use Rattle.std.specs.List.{slice_split, onto_first, before_first, position_or_len, list_any}
use Rattle.std.proofs.lemmas.List.{take_all}
use Rattle.tree_literals.specs.StringLayout.{is_tab_or_space, is_blank, is_at_margin, first_is_blank, last_is_blank, text_lines}

first_is_blank-onto : (x : ℕ) (lines : List (List ℕ)) → first_is_blank (onto_first x lines) ≡ (is_tab_or_space x && first_is_blank lines)
first_is_blank-onto x [] = refl
first_is_blank-onto x (line ∷ lines) = refl

first_is_blank-split : (p : ℕ → Bool) (text : List ℕ) → first_is_blank (slice_split p text) ≡ is_blank (before_first p text)
first_is_blank-split p [] = refl
first_is_blank-split p (x ∷ text) =
    elim (p x) as (λ b. first_is_blank (cond b ([] ∷ slice_split p text) (onto_first x (slice_split p text))) ≡ is_blank (take (cond (not b) (1 + position_or_len p text) 0) (x ∷ text))) [
      | true ↦ refl
      | false ↦
          let next : 1 + position_or_len p text ≡ suc (position_or_len p text) = omega arith in
          first_is_blank-onto x (slice_split p text) ∙ ap (λ r. is_tab_or_space x && r) (first_is_blank-split p text) ∙ ap (λ n. is_blank (take n (x ∷ text))) (sym next)
    ]

pub first_line-only : (text line : List ℕ) → line ≡ text → position_or_len (λ b. b == 10) text ≡ length text → is_blank line ≡ first_is_blank (text_lines text)
first_line-only text line e h =
    ap is_blank (e ∙ sym (take_all _ text (omega (arith, h)))) ∙ sym (first_is_blank-split (λ b. b == 10) text)

pub first_line-split : (text line : List ℕ) → line ≡ before_first (λ b. b == 10) text → is_blank line ≡ first_is_blank (text_lines text)
first_line-split text line e = ap is_blank e ∙ sym (first_is_blank-split (λ b. b == 10) text)

pub last_is_blank-push : (lines : List (Bor (List ℕ))) (line : Bor (List ℕ)) → last_is_blank (map (λ x. x.now) (lines ++ line ∷ [])) ≡ is_blank line.now
last_is_blank-push [] line = refl
last_is_blank-push (x ∷ []) line = refl
last_is_blank-push (x ∷ y ∷ lines) line = last_is_blank-push (y ∷ lines) line

or_false : (a : Bool) → (a || false) ≡ a
or_false true = refl
or_false false = refl

or_assoc : (a b c : Bool) → (a || (b || c)) ≡ (a || b || c)
or_assoc true b c = refl
or_assoc false b c = refl

pub at_margin-push : (lines : List (Bor (List ℕ))) (line : Bor (List ℕ)) → list_any is_at_margin (map (λ x. x.now) (lines ++ line ∷ [])) ≡ (list_any is_at_margin (map (λ x. x.now) lines) || is_at_margin line.now)
at_margin-push [] line = or_false (is_at_margin line.now)
at_margin-push (x ∷ lines) line = ap (λ r. is_at_margin x.now || r) (at_margin-push lines line) ∙ or_assoc (is_at_margin x.now) (list_any is_at_margin (map (λ x. x.now) lines)) (is_at_margin line.now)

pub ends_well : (last one : Bool) (lines all : List (List ℕ)) → last ≡ last_is_blank lines → one ≡ list_any is_at_margin lines → lines ≡ all → (not last && one) ≡ (not (last_is_blank all) && list_any is_at_margin all)
ends_well last one lines all p q e = cc
