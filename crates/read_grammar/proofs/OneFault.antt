-- Of the same tokens one syntax fault at most is due.
use Rattle.std.proofs.Common.{◌≡◌, ℕ, zero, suc, ◌<◌, ◌≤◌, true, List, [], ◌∷◌, ◌++◌, length, drop, sym, ap, subst, ◌∙◌, arith, append_assoc, inl, inr, ◌⊎◌}
use Rattle.std.proofs.lemmas.List.{append-nil, length-append}
use Rattle.std.proofs.Math.Seq.{drop-append_seam}
use Rattle.read_tokens.specs.Input.{Token, Ending, Ended, NoTokenAt}
use Rattle.read_grammar.specs.Meaning.{begin_of}
use Rattle.read_grammar.specs.Faults.{Symbol, Fault, Memory, NoToken, Unexpected, End, Nesting, is_syntax, BeginsNone, BeginsSome, IsUnexpected, Says}
use Rattle.read_grammar.proofs.ViableTests.{split}

compare : (a b : ℕ) → (a < b) ⊎ (b ≤ a)
compare a zero = inr (omega arith)
compare zero (suc b) = inl (omega arith)
compare (suc a) (suc b) = elim (compare a b) [ inl h ↦ inl (omega (arith, h)) | inr h ↦ inr (omega (arith, h)) ]

-- after two prefixes of one list come the same tokens, if there are equally many
same_after : (a b c d : List Token) → a ++ b ≡ c ++ d → length b ≡ length d → b ≡ d
same_after a b c d e long =
    let all = ap (λ (ts : List Token). length ts) e in
    let far : length a ≡ length c = omega (arith, all, long, length-append a b, length-append c d) in
    sym (drop-append_seam a b) ∙ ap (λ (ts : List Token). drop (length a) ts) e ∙ ap (λ (n : ℕ). drop n (c ++ d)) far ∙ drop-append_seam c d

abbrev offset_of : (ending : Ending) → ℕ
offset_of (Ended at) = at
offset_of (NoTokenAt at) = at

module _ {A : Type 0} (symbol : Symbol A) (tokens : List Token) where
  -- tokens that begin no text begin none with more tokens after them
  no_further : (front following : List Token) → BeginsNone symbol front → BeginsSome symbol (front ++ following) → ⊥
  no_further front following none some = none (following ++ some.0) some.1 (subst (λ (ts : List Token). symbol ts some.1) (append_assoc front following some.0) some.2)

  -- what begins a text ends before the token that cannot follow
  stands_before : (at : ℕ) (x : IsUnexpected symbol tokens at) (front rest : List Token) → tokens ≡ front ++ rest → BeginsSome symbol front → length rest ≤ length x.stands.rest → ⊥
  stands_before at x front rest parts some le =
      let s = split (x.front ++ x.token ∷ []) x.stands.rest front rest (append_assoc x.front (x.token ∷ []) x.stands.rest ∙ sym x.stands.parts ∙ parts) le in
      no_further (x.front ++ x.token ∷ []) s.0 x.begins_none (subst (λ (ts : List Token). BeginsSome symbol ts) s.1 some)

  same_place : (at other : ℕ) → IsUnexpected symbol tokens at → IsUnexpected symbol tokens other → at ≡ other
  same_place at other x y = go (compare (length x.stands.rest) (length y.stands.rest)) (compare (length y.stands.rest) (length x.stands.rest))
    where
      go : (length x.stands.rest < length y.stands.rest) ⊎ (length y.stands.rest ≤ length x.stands.rest) → (length y.stands.rest < length x.stands.rest) ⊎ (length x.stands.rest ≤ length y.stands.rest) → at ≡ other
      go (inl less) h = absurd (stands_before other y x.front (x.token ∷ x.stands.rest) x.stands.parts x.begins_some (omega arith))
      go (inr more) (inl less) = absurd (stands_before at x y.front (y.token ∷ y.stands.rest) y.stands.parts y.begins_some (omega arith))
      go (inr more) (inr least) =
          sym x.stands.at
          ∙ ap begin_of (same_after x.front (x.token ∷ x.stands.rest) y.front (y.token ∷ y.stands.rest) (sym x.stands.parts ∙ y.stands.parts) (omega arith))
          ∙ y.stands.at

  -- where all tokens begin a text, each can follow
  all_follow : (at : ℕ) → IsUnexpected symbol tokens at → BeginsSome symbol tokens → ⊥
  all_follow at x some = stands_before at x tokens [] (sym (append-nil tokens)) some (omega arith)

  pub one_fault : (ending : Ending) (nesting : ℕ) (fault other : Fault) → is_syntax fault ≡ true → is_syntax other ≡ true → Says symbol tokens ending nesting fault → Says symbol tokens ending nesting other → fault ≡ other
  one_fault ending nesting (Unexpected a) (Unexpected b) f o x y = ap Unexpected (same_place a b x y)
  one_fault ending nesting (Unexpected a) (NoToken b) f o x y = absurd (all_follow a x y.1)
  one_fault ending nesting (Unexpected a) (End b) f o x y = absurd (all_follow a x y.2)
  one_fault ending nesting (NoToken a) (Unexpected b) f o x y = absurd (all_follow b y x.1)
  one_fault ending nesting (End a) (Unexpected b) f o x y = absurd (all_follow b y x.2)
  one_fault ending nesting (NoToken a) (NoToken b) f o x y = ap (λ (e : Ending). NoToken (offset_of e)) (sym x.0 ∙ y.0)
  one_fault ending nesting (End a) (End b) f o x y = ap (λ (e : Ending). End (offset_of e)) (sym x.0 ∙ y.0)
  one_fault ending nesting (NoToken a) (End b) f o x y = let no : NoTokenAt a ≡ Ended b = sym x.0 ∙ y.0 in absurd cc
  one_fault ending nesting (End a) (NoToken b) f o x y = let no : Ended a ≡ NoTokenAt b = sym x.0 ∙ y.0 in absurd cc
  one_fault ending nesting Memory other f o x y = absurd cc
  one_fault ending nesting (Nesting a) other f o x y = absurd cc
  one_fault ending nesting (Unexpected a) Memory f o x y = absurd cc
  one_fault ending nesting (Unexpected a) (Nesting b) f o x y = absurd cc
  one_fault ending nesting (NoToken a) Memory f o x y = absurd cc
  one_fault ending nesting (NoToken a) (Nesting b) f o x y = absurd cc
  one_fault ending nesting (End a) Memory f o x y = absurd cc
  one_fault ending nesting (End a) (Nesting b) f o x y = absurd cc
