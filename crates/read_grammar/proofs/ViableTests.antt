-- Where the parser of a rule whose tree is tested stops, the tokens before begin some text of the rule.
use Rattle.std.proofs.Common.{◌≡◌, ◌≤◌, Bool, true, false, cond, List, [], ◌∷◌, ◌++◌, length, Ok, Err, refl, sym, ap, subst, ◌∙◌, arith, append_assoc, inr}
use Rattle.read_grammar.specs.declared.parse_error.ParseError.{ParseError}
use Rattle.read_grammar.specs.declared.parse_error.ParseError.TheVariants.{Unexpected, Nesting, Memory}
use Rattle.read_tokens.specs.Input.{Token, Input, next_of}
use Rattle.read_grammar.specs.Rules as rule
use Rattle.read_grammar.specs.Rules.{Rule}
use Rattle.read_grammar.specs.Reading as read
use Rattle.read_grammar.specs.Reading.{checked, Outcome, Parser, and_then}
use Rattle.read_grammar.proofs.Tests.{Test}
use Rattle.read_grammar.proofs.Viable.{put, Leaves, Fills, Starts, Goes, Viable}
use Rattle.std.proofs.lemmas.List.{append_cancel_left, length-append}

-- of two prefixes of one list the longer continues the shorter
pub split : (a b c d : List Token) → a ++ b ≡ c ++ d → length d ≤ length b → (w : List Token) × (c ≡ a ++ w)
split [] b c d e le = (c, refl)
split (x ∷ a) b [] d e le = let len = ap (λ (ts : List Token). length ts) e in absurd (omega (arith, len, length-append a b))
split (x ∷ a) b (y ∷ c) d e le =
    let s = split a b c d (ap (λ (ts : List Token). tail ts) e) le in
    (s.0, ap (λ (t : Token). t ∷ c) (sym (ap (λ (ts : List Token). head x ts) e)) ∙ ap (λ (ts : List Token). x ∷ ts) s.1)
  where
    tail : List Token → List Token
    tail [] = []
    tail (t ∷ ts) = ts

    head : Token → List Token → Token
    head t [] = t
    head t (u ∷ ts) = u

-- After the tokens of a tree that does not pass there may be more, with which one passes.
pub record Grows {A : Type 0} (passes : A → Bool) (r : Rule A) (f : Test) (i o : Input) : Type 0 where
  pub taken : List Token
  pub parts : i.ahead ≡ taken ++ o.ahead
  pub more : (rest : List Token) → f (next_of rest) ≡ true → (more : List Token) × (length rest ≤ length more) × Leaves (rule.such_that passes r) (put i (taken ++ more)) rest

module _ {A : Type 0} {k : Bool} {r : Rule A} {p : Parser A} {f : Test} (passes : A → Bool) (fs : Fills (rule.such_that passes r) f) (grows : (i : Input) (x : A) (o : Input) → r i x o → passes x ≡ false → Grows passes r f i o) (h : Viable k r p f) where
  passed : (i : Input) (x : A) (o : Input) (b : Bool) → passes x ≡ b → Goes k r f i (Ok (x, o)) → Goes k (rule.such_that passes r) f i (cond b (Ok (x, o)) (Err (Unexpected, o)))
  passed i x o true e g = (g.0, g.1, g.2, λ rest fo. (g.3 rest fo, e))
  passed i x o false e g =
      let w = grows (put i (g.0 ++ o.ahead)) x (put o o.ahead) (g.3 o.ahead (inr refl)) e in
      (w.taken, g.1 ∙ w.parts, λ rest fo. let c = w.more rest fo in (c.0, c.1, tt, c.2))

  -- what comes before the rest begins as the whole does, if the rest is shorter
  begins_split : (stop : ParseError) (ahead rest more s others : List Token) → more ≡ s ++ rest → length rest ≤ length others → Starts stop ahead rest more → Starts stop ahead rest (s ++ others)
  begins_split Nesting ahead rest more [] others e le h = let len = ap (λ (ts : List Token). length ts) (sym e ∙ h.4) in let k = h.5 in absurd (omega (arith, len))
  begins_split Nesting ahead rest more (x ∷ s) others e le h =
      let same : x ≡ h.0 = ap (λ (ts : List Token). head x ts) (sym e ∙ h.4) in
      (h.0, h.1, s ++ others, h.3, ap (λ (t : Token). t ∷ (s ++ others)) same, omega (arith, length-append s others))
    where
      head : Token → List Token → Token
      head t [] = t
      head t (u ∷ ts) = u
  begins_split Unexpected ahead rest more s others e le h = tt
  begins_split Memory ahead rest more s others e le h = tt

  completed : (stop : ParseError) (ahead : List Token) (i : Input) (taken rest : List Token) → f (next_of rest) ≡ true → (more : List Token) → length rest ≤ length more → Starts stop ahead rest more → (x : A) (o : Input) → o.ahead ≡ rest → r (put i (taken ++ more)) x o → (b : Bool) → passes x ≡ b → (more : List Token) × (length rest ≤ length more) × Starts stop ahead rest more × Leaves (rule.such_that passes r) (put i (taken ++ more)) rest
  completed stop ahead i taken rest fo more le st x o e a true is = (more, le, st, (x, o, e, (a, is)))
  completed stop ahead i taken rest fo more le st x o e a false is =
      let w = grows (put i (taken ++ more)) x o a is in
      let len = ap (λ (ts : List Token). length ts) e in
      let s = split taken more w.taken o.ahead w.parts (omega (arith, len)) in
      let c = w.more rest fo in
      let longer = c.1 in
      let parts : more ≡ s.0 ++ rest = append_cancel_left taken more (s.0 ++ rest) (w.parts ∙ ap (λ (ts : List Token). ts ++ o.ahead) s.1 ∙ append_assoc taken s.0 o.ahead ∙ ap (λ (ts : List Token). taken ++ (s.0 ++ ts)) e) in (
        s.0 ++ c.0,
        omega (arith, length-append s.0 c.0),
        begins_split stop ahead rest more s.0 c.0 parts longer st,
        subst (λ (ts : List Token). Leaves (rule.such_that passes r) (put i ts) rest) (ap (λ (ts : List Token). ts ++ c.0) s.1 ∙ append_assoc taken s.0 c.0) c.2,
      )

  check : (i : Input) (y : Outcome A) → Goes k r f i y → Goes k (rule.such_that passes r) f i (and_then y (checked passes))
  check i (Ok z) g = passed i z.0 z.1 (passes z.0) refl g
  check i (Err s) g = (g.0, g.1, λ rest fo. let c = g.2 rest fo in completed s.0 s.1.ahead i g.0 rest fo c.0 c.1 c.2 c.3.0 c.3.1 c.3.2 c.3.3 (passes c.3.0) refl)

  pub such_that : Viable k (rule.such_that passes r) (read.such_that passes p) f
  such_that = record { fills = fs; at = λ i. check i (p i) (h.at i) }
