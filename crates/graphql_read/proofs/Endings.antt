-- How a text ends, and how its reading does.
use Rattle.std.proofs.Common.{◌≡◌, ◌⊎◌, ℕ, Bool, true, false, cond, List, [], ◌∷◌, drop, Option, Some, None, Ok, Err, refl, sym, ap, subst, ◌∙◌, inl, inr}
use Rattle.read_tokens.specs.declared.terminal.Terminal.{Terminal}
use Rattle.read_tokens.specs.Input.{Token, Input, Ending, Ended, NoTokenAt, next, next_of}
use Rattle.read_tokens.specs.Tokens.{ignored_at, token_at}
use Rattle.read_tokens.specs.Lex.{Piece, piece_at, ArePieces, Lex, NothingBegins}
use Rattle.read_tokens.specs.Cursor.{EndsAs, is_stuck, is_stuck_at}
use Rattle.read_tokens.proofs.Lexed.{lex_unique}
use Rattle.read_grammar.specs.declared.parse_error.ParseError.{ParseError}
use Rattle.read_grammar.specs.declared.parse_error.ParseError.TheVariants.{Memory, Unexpected}
use Rattle.read_grammar.specs.Reading.{Outcome, Parser, and_then, ended, ended_at, whole}
use Rattle.read_grammar.proofs.Exact.{ok_is}
use Rattle.graphql_read.specs.Calls.{end_of_text, end_of_text_at, all_of}

-- ---- a text that is all tokens

pub no_piece_of_none : (text : List ℕ) (q : Piece) → text ≡ [] → piece_at text ≡ Some q → ⊥
unfolding piece_at ignored_at token_at
no_piece_of_none [] q e found = absurd cc
no_piece_of_none (b ∷ text) q e found = absurd cc

pub same_piece : (p q : Piece) → Some p ≡ Some q → p ≡ q
same_piece p q e = cc

-- the pieces of a text do not both reach its end and stop before
never_both : (ps qs : List Piece) (text following : List ℕ) → ArePieces ps text following → ArePieces qs text [] → NothingBegins following → ⊥
never_both [] [] text following a b none = none.some (sym a ∙ b)
never_both [] (q ∷ qs) text following a b none = let e : Some q ≡ None = sym b.0 ∙ ap piece_at a ∙ none.no_piece in absurd cc
never_both (p ∷ ps) [] text following a b none = no_piece_of_none text p b a.0
never_both (p ∷ ps) (q ∷ qs) text following a b none =
    let same : p ≡ q = same_piece p q (sym a.0 ∙ b.0) in
    never_both ps qs (drop p.length text) following a.1 (subst (λ (r : Piece). ArePieces qs (drop r.length text) []) (sym same) b.1) none

-- a text that is all tokens has these alone, and ends with the text
pub ends_whole : (text : List ℕ) (ahead : List Token) (ending : Ending) (tokens : List Token) → EndsAs text ahead ending → Lex text tokens → (at : ℕ) × (ending ≡ Ended at) × (tokens ≡ ahead)
ends_whole text ahead (Ended at) tokens ends lex = (at, refl, lex_unique text tokens ahead lex ends.1)
ends_whole text ahead (NoTokenAt at) tokens ends lex = absurd (never_both ends.0.pieces lex.pieces text (drop at text) ends.0.are lex.are ends.1)

-- ---- where the tokens end

stuck_there : (ts : List Token) (ending : Ending) (at : ℕ) → ts ≡ [] → ending ≡ NoTokenAt at → is_stuck_at ts ending ≡ true
stuck_there [] (NoTokenAt place) at e same = refl
stuck_there [] (Ended place) at e same = absurd cc
stuck_there (t ∷ ts) ending at e same = absurd cc

pub not_stuck : (ts : List Token) (ending : Ending) (at : ℕ) → ending ≡ Ended at → is_stuck_at ts ending ≡ true → ⊥
not_stuck [] (Ended place) at same s = absurd cc
not_stuck [] (NoTokenAt place) at same s = absurd cc
not_stuck (t ∷ ts) ending at same s = absurd cc

-- where reading ends and is not stuck, all of the text is tokens
pub lexed_whole : (text : List ℕ) (tokens : List Token) (z : Input) (ending : Ending) → z.ahead ≡ [] → z.ending ≡ ending → is_stuck z ≡ false → EndsAs text tokens ending → Lex text tokens
lexed_whole text tokens z (Ended at) none same free ends = ends.1
lexed_whole text tokens z (NoTokenAt at) none same free ends = let no : true ≡ false = sym (stuck_there z.ahead z.ending at none same) ∙ free in absurd cc

next_none : (ts : List Token) → next_of ts ≡ None → ts ≡ []
next_none [] e = refl
next_none (t ∷ ts) e = absurd cc

-- ---- a symbol and nothing after it

-- at the end of all tokens
pub record AtEnd (z : Input) (stuck : Bool) : Type 0 where
  pub none : z.ahead ≡ []
  pub is : is_stuck z ≡ stuck

abbrev stuck_or_end : Input → Bool → Outcome (Unit {0})
stuck_or_end o t = cond t (Err (Unexpected, o)) (Ok (tt, o))

module _ {A : Type 0} where
  abbrev done_at : A → Input → Outcome A
  done_at x o = Ok (x, o)

  abbrev stop_at : ParseError → Input → Outcome A
  stop_at stop o = Err (stop, o)

  abbrev stop_of : Outcome A → ParseError
  stop_of (Ok z) = Memory
  stop_of (Err f) = f.0

  abbrev place_of : Outcome A → Input
  place_of (Ok z) = z.1
  place_of (Err f) = f.1

  abbrev goes_on : A → Outcome (Unit {0}) → Outcome A
  goes_on x y = and_then y (λ u o. done_at x o)

  module _ (p : ℕ → Parser A) (n : ℕ) (i : Input) where
    pub all_ok : (x : A) (z : Input) → all_of (p n) i ≡ Ok (x, z) → (whole p n i ≡ Ok (x, z)) × AtEnd z false
    unfolding whole
    all_ok x z at = go (p n i) at
      where
        by_stuck : (w : A × Input) (s : Bool) → is_stuck w.1 ≡ s → next w.1 ≡ None → goes_on w.0 (stuck_or_end w.1 s) ≡ done_at x z → (done_at w.0 w.1 ≡ done_at x z) × AtEnd z false
        by_stuck w true is e at = absurd cc
        by_stuck w false is e at = (at, subst (λ (k : A × Input). AtEnd k.1 false) (ok_is w (x, z) at) (record { none = next_none w.1.ahead e; is = is }))

        by_next : (w : A × Input) (m : Option Terminal) → next w.1 ≡ m → goes_on w.0 (end_of_text_at m w.1) ≡ done_at x z → (ended_at w.0 w.1 m ≡ done_at x z) × AtEnd z false
        by_next w None e at = by_stuck w (is_stuck w.1) refl e at
        by_next w (Some kind) e at = absurd cc

        go : (y : Outcome A) → and_then y (λ x o. goes_on x (end_of_text o)) ≡ done_at x z → (and_then y ended ≡ done_at x z) × AtEnd z false
        go (Ok w) at = by_next w (next w.1) refl at
        go (Err f) at = absurd cc

    pub all_err : (stop : ParseError) (z : Input) → all_of (p n) i ≡ Err (stop, z) → (whole p n i ≡ Err (stop, z)) ⊎ ((stop ≡ Unexpected) × ((x : A) × (whole p n i ≡ Ok (x, z)) × AtEnd z true))
    unfolding whole
    all_err stop z at = go (p n i) at
      where
        by_stuck : (w : A × Input) (s : Bool) → is_stuck w.1 ≡ s → next w.1 ≡ None → goes_on w.0 (stuck_or_end w.1 s) ≡ stop_at stop z → (done_at w.0 w.1 ≡ stop_at stop z) ⊎ ((stop ≡ Unexpected) × ((x : A) × (done_at w.0 w.1 ≡ done_at x z) × AtEnd z true))
        by_stuck w true is e at =
            let there : w.1 ≡ z = ap place_of at in
            inr (sym (ap stop_of at), (w.0, ap (λ (k : Input). done_at w.0 k) there, subst (λ (k : Input). AtEnd k true) there (record { none = next_none w.1.ahead e; is = is })))
        by_stuck w false is e at = absurd cc

        by_next : (w : A × Input) (m : Option Terminal) → next w.1 ≡ m → goes_on w.0 (end_of_text_at m w.1) ≡ stop_at stop z → (ended_at w.0 w.1 m ≡ stop_at stop z) ⊎ ((stop ≡ Unexpected) × ((x : A) × (ended_at w.0 w.1 m ≡ done_at x z) × AtEnd z true))
        by_next w None e at = by_stuck w (is_stuck w.1) refl e at
        by_next w (Some kind) e at = inl at

        go : (y : Outcome A) → and_then y (λ x o. goes_on x (end_of_text o)) ≡ stop_at stop z → (and_then y ended ≡ stop_at stop z) ⊎ ((stop ≡ Unexpected) × ((x : A) × (and_then y ended ≡ done_at x z) × AtEnd z true))
        go (Ok w) at = by_next w (next w.1) refl at
        go (Err f) at = inl at
