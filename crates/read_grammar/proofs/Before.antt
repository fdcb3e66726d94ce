-- Where the reading of all tokens ends, a text of the symbol begins with the tokens before.
use Rattle.std.proofs.Common.{◌≡◌, ℕ, suc, Bool, true, List, [], ◌∷◌, ◌++◌, Option, Some, None, Ok, Err, refl, ap, subst, ◌∙◌, sym, append_assoc, inl}
use Rattle.read_tokens.specs.declared.terminal.Terminal.{Terminal}
use Rattle.read_grammar.specs.declared.parse_error.ParseError.{ParseError}
use Rattle.read_tokens.specs.Input.{Token, Input, Ended, next}
use Rattle.read_grammar.specs.declared.parse_error.ParseError.TheVariants.{Unexpected, Nesting, Memory}
use Rattle.read_grammar.specs.Meaning.{begin_of}
use Rattle.read_grammar.specs.Rules.{Rule}
use Rattle.read_grammar.specs.Grammar.{DerivesAs}
use Rattle.read_grammar.specs.Faults.{Symbol, BeginsSome, MayStand}
use Rattle.read_grammar.specs.Reading.{Outcome, Parser, and_then, ended, ended_at, whole}
use Rattle.read_grammar.proofs.Tests.{Test}
use Rattle.read_grammar.proofs.Viable.{Viable, Goes, Leaves, put}

-- ---- outcomes

module _ {A : Type 0} where
  abbrev pub done_at : A → Input → Outcome A
  done_at x o = Ok (x, o)

  abbrev pub stop_at : ParseError → Input → Outcome A
  stop_at stop o = Err (stop, o)

  abbrev pub stop_of : Outcome A → ParseError
  stop_of (Ok z) = Memory
  stop_of (Err f) = f.0

  abbrev pub place_of : Outcome A → Input
  place_of (Ok z) = z.1
  place_of (Err f) = f.1

-- ---- what comes before

-- a text of the symbol begins with the tokens before these last ones
pub record BeginsBefore {A : Type 0} (symbol : Symbol A) (tokens last : List Token) : Type 0 where
  pub front : List Token
  pub parts : tokens ≡ front ++ last
  pub begins : BeginsSome symbol front

ended_place : {A : Type 0} (y : Outcome A) → place_of (and_then y ended) ≡ place_of y
ended_place (Ok z) = go (next z.1)
  where
    go : (n : Option Terminal) → place_of (ended_at z.0 z.1 n) ≡ z.1
    go None = refl
    go (Some kind) = refl
ended_place (Err f) = refl

module _ {A : Type 0} {k : Bool} (r : ℕ → Rule A) (p : ℕ → Parser A) {f : Test} (viable : (n : ℕ) → Viable k (r (suc n)) (p n) f) (ends : f None ≡ true) (n : ℕ) (i : Input) (begins : i.last ≡ 0) where
  begun : (taken more : List Token) → Leaves (r (suc n)) (put i (taken ++ more)) [] → BeginsSome (DerivesAs r) taken
  begun taken more l =
      (more, l.0, (suc n, l.1, l.2, subst (λ (j : Input). r (suc n) j l.0 l.1) (ap (λ (at : ℕ). put (record { last = at; ahead = []; ending = Ended 0 }) (taken ++ more)) begins) l.3))

  front : (y : Outcome A) → Goes k (r (suc n)) f i y → BeginsBefore (DerivesAs r) i.ahead (place_of y).ahead
  front (Ok z) h = record { front = h.0; parts = h.1; begins = begun h.0 [] (z.0, put z.1 [], refl, h.3 [] (inl ends)) }
  front (Err g) h = let c = h.2 [] ends in record { front = h.0; parts = h.1; begins = begun h.0 c.0 c.3 }

  -- whatever the outcome
  before : BeginsBefore (DerivesAs r) i.ahead (place_of (whole p n i)).ahead
  unfolding whole
  before = subst (λ (j : Input). BeginsBefore (DerivesAs r) i.ahead j.ahead) (sym (ended_place (p n i))) (front (p n i) ((viable n).at i))

  pub before_stop : (stop : ParseError) (z : Input) → whole p n i ≡ Err (stop, z) → BeginsBefore (DerivesAs r) i.ahead z.ahead
  before_stop stop z at = subst (λ (y : Outcome A). BeginsBefore (DerivesAs r) i.ahead (place_of y).ahead) at before

  -- a bracket too many may be there
  nests : (o : Input) (y : Outcome A) → Goes k (r (suc n)) f i y → y ≡ Err (Nesting, o) → MayStand (DerivesAs r) i.ahead (begin_of o.ahead)
  nests o (Ok z) h e = absurd cc
  nests o (Err (Unexpected, z)) h e = let no : Unexpected ≡ Nesting = ap stop_of e in absurd cc
  nests o (Err (Memory, z)) h e = let no : Memory ≡ Nesting = ap stop_of e in absurd cc
  nests o (Err (Nesting, z)) h e =
      let c = h.2 [] ends in
      let s = c.2 in
      record {
        front = h.0;
        token = s.0;
        stands = record { rest = s.1; parts = h.1 ∙ ap (λ (ts : List Token). h.0 ++ ts) s.3; at = ap begin_of (sym s.3) ∙ ap (λ (j : Input). begin_of j.ahead) (ap place_of e) };
        begins_some = begun (h.0 ++ s.0 ∷ []) s.2 (subst (λ (ts : List Token). Leaves (r (suc n)) (put i ts) []) (ap (λ (ts : List Token). h.0 ++ ts) s.4 ∙ sym (append_assoc h.0 (s.0 ∷ []) s.2)) c.3);
      }

  ended_nests : (o : Input) (y : Outcome A) → and_then y ended ≡ Err (Nesting, o) → y ≡ Err (Nesting, o)
  ended_nests o (Ok z) e = go (next z.1) e
    where
      go : (m : Option Terminal) → ended_at z.0 z.1 m ≡ stop_at Nesting o → done_at z.0 z.1 ≡ stop_at Nesting o
      go None e = absurd cc
      go (Some kind) e = let no : Unexpected ≡ Nesting = ap stop_of e in absurd cc
  ended_nests o (Err g) e = e

  pub may_nest : (o : Input) → whole p n i ≡ Err (Nesting, o) → MayStand (DerivesAs r) i.ahead (begin_of o.ahead)
  unfolding whole
  may_nest o e = nests o (p n i) ((viable n).at i) (ended_nests o (p n i) e)
