-- What is between the members of a list in braces, under both kinds of layout.
use Rattle.std.proofs.Common.{◌≡◌, ℕ, zero, suc, ◌+◌, ◌==◌, Bool, true, false, ◌||◌, subst, List, [], ◌∷◌, ◌++◌, Some, None, refl, sym, ap, ◌∙◌, append_assoc, append-nil}
use Rattle.std.specs.List.{list_all}
use Rattle.std.proofs.lemmas.Bool.{and_parts}
use Rattle.round_trip.specs.in_literals.Joined.{joined}
use Rattle.round_trip.specs.in_literals.StringLayout.{is_tab_or_space}
use Rattle.round_trip.specs.in_literals.LineLayout.{Prefix, Leveled, line_start, start_text, break_text, members_text, braced_text, set_text}
use Rattle.read_operations.specs.in_tokens.Tokens.{is_ignored_byte}
use Rattle.read_operations.specs.in_tokens.Input.{Token, Ending}
use Rattle.read_operations.specs.in_grammar.Kinds.{is_open_brace, is_close_brace}
use Rattle.read_operations.specs.in_grammar.Rules.{Rule, many, some, between}
use Rattle.round_trip.specs.Printed.{Follow, any, ends_word, before, ReadsUpTo, Printed}
use Rattle.round_trip.specs.WellFormed.{is_white_prefix}
use Rattle.round_trip.proofs.Sequences.{ends_before, seq, mapped, ignored}
use Rattle.round_trip.proofs.Punctuators.{open_brace, close_brace}

all_joined : (p : ℕ → Bool) (xs ys : List ℕ) → list_all p xs ≡ true → list_all p ys ≡ true → list_all p (xs ++ ys) ≡ true
all_joined p [] ys h k = k
all_joined p (x ∷ xs) ys h k = let (this, others) = and_parts (p x) (list_all p xs) h in rw this (all_joined p xs ys others k)

-- tabs and spaces are ignored
white_ignored : (b : ℕ) → is_tab_or_space b ≡ true → is_ignored_byte b ≡ true
white_ignored b h = go (b == 9) (b == 32) (b == 10) (b == 44) h
  where
    go : (x y z w : Bool) → (x || y) ≡ true → (((x || y) || z) || w) ≡ true
    go true y z w h = refl
    go false true z w h = refl
    go false false z w h = absurd cc

all_white : (text : List ℕ) → list_all is_tab_or_space text ≡ true → list_all is_ignored_byte text ≡ true
all_white [] h = refl
all_white (b ∷ text) h = let (this, others) = and_parts (is_tab_or_space b) (list_all is_tab_or_space text) h in rw (white_ignored b this) (all_white text others)

line_start_ignored : (prefix : List ℕ) (level : ℕ) → list_all is_ignored_byte prefix ≡ true → list_all is_ignored_byte (line_start prefix level) ≡ true
unfolding joined
line_start_ignored prefix zero h = refl
line_start_ignored prefix (suc level) h = all_joined is_ignored_byte prefix (line_start prefix level) h (line_start_ignored prefix level h)

-- from one line to the next all is ignored
pub break_ignored : (prefix : Prefix) (level : ℕ) → is_white_prefix prefix ≡ true → list_all is_ignored_byte (break_text prefix level) ≡ true
unfolding joined
break_ignored None level h = refl
break_ignored (Some prefix) level h = all_joined is_ignored_byte (line_start prefix level) [] (line_start_ignored prefix level (all_white prefix h)) refl

-- and before the first line
pub start_ignored : (prefix : Prefix) (level : ℕ) → is_white_prefix prefix ≡ true → list_all is_ignored_byte (start_text prefix level) ≡ true
unfolding joined
start_ignored None level h = refl
start_ignored (Some prefix) level h = subst (λ (l : List ℕ). list_all is_ignored_byte l ≡ true) (append-nil (line_start prefix level)) (break_ignored (Some prefix) level h)

-- it ends a word
pub break_ends : (prefix : Prefix) (level : ℕ) (following : List ℕ) → ends_word (break_text prefix level ++ following) ≡ true
unfolding joined
break_ends None level following = refl
break_ends (Some prefix) level following = refl

pub set_ends : (prefix : Prefix) (level : ℕ) (members : List Leveled) → ends_word (set_text prefix level members) ≡ true
unfolding joined
set_ends prefix level [] = refl
set_ends prefix level (member ∷ members) = refl

-- a member on its line, and those after it
pub members_is : (prefix : Prefix) (level : ℕ) (member : Leveled) (members : List Leveled) → break_text prefix level ++ (member level ++ members_text prefix level members) ≡ members_text prefix level (member ∷ members)
unfolding joined
members_is prefix level member members =
    ap (λ (l : List ℕ). break_text prefix level ++ (l ++ members_text prefix level members)) (sym (append-nil (member level)))
    ∙ sym (append_assoc (break_text prefix level) (member level ++ []) (members_text prefix level members))

pub members_end : (prefix : Prefix) (level : ℕ) (members : List Leveled) (following : List ℕ) → ends_word following ≡ true → ends_word (members_text prefix level members ++ following) ≡ true
unfolding joined
members_end prefix level [] following fine = fine
members_end prefix level (member ∷ members) following fine =
    subst (λ (l : List ℕ). ends_word (l ++ following) ≡ true) (members_is prefix level member members)
    (ends_before (break_text prefix level ++ (member level ++ members_text prefix level members)) following (break_ends prefix level (member level ++ members_text prefix level members)) fine)

-- where none is not said, many are some
pub some_of_many : {A : Type 0} {r : Rule A} {says : List A → Type 0} {f : Follow} {a : List ℕ} → (says [] → ⊥) → Printed (many r) says f a → Printed (some r) says f a
some_of_many {A} {r} {says} never p = record {
  stands = λ following at others fine lexed.
      let b = p.stands following at others fine lexed in
      record { tokens = b.tokens; lexed = b.lexed; reads = λ ending last. let d = b.reads ending last in go ending last b.tokens others d.tree d.end d.read d.said };
}
  where
    go : (ending : Ending) (last : ℕ) (tokens others : List Token) (xs : List A) (end : ℕ) → many r (before ending last tokens) xs (before ending end others) → says xs → ReadsUpTo (some r) says ending last tokens others
    go ending last tokens others [] end read said = absurd (never said)
    go ending last tokens others (x ∷ xs) end read said = record { tree = x ∷ xs; end = end; read = read; said = said }

-- { members }
pub braced : {A : Type 0} {r : Rule A} {says : A → Type 0} (prefix : Prefix) (level : ℕ) (member : Leveled) (members : List Leveled) → is_white_prefix prefix ≡ true
    → Printed r says ends_word (members_text prefix (level + 1) (member ∷ members)) → Printed (between is_open_brace r is_close_brace) says any (braced_text prefix level (member ∷ members))
unfolding joined
braced {A} {r} {says} prefix level member members white p =
    mapped (λ x. x.1.0) says (λ x said. said.1.0)
    (seq {f = any} (λ following fine. refl) open_brace
    (seq {f = ends_word} (λ following fine. subst (λ (l : List ℕ). ends_word l ≡ true) (sym (append_assoc (break_text prefix level) (125 ∷ []) following)) (break_ends prefix level (125 ∷ following)))
    p (ignored (break_text prefix level) (break_ignored prefix level white) close_brace)))

-- the same after something and a space
pub in_braces : {A : Type 0} {r : Rule A} {says : A → Type 0} (prefix : Prefix) (level : ℕ) (member : Leveled) (members : List Leveled) → is_white_prefix prefix ≡ true
    → Printed r says ends_word (members_text prefix (level + 1) (member ∷ members)) → Printed (between is_open_brace r is_close_brace) says any (set_text prefix level (member ∷ members))
unfolding joined
in_braces prefix level member members white p = ignored (32 ∷ []) refl (braced prefix level member members white p)
