-- Where a parser stops, the tokens before are the front of a text of its rule; where it reads, its rule derives the same in front of other tokens.
use Rattle.std.proofs.Common.{◌≡◌, ℕ, ◌≤◌, Bool, true, false, cond, List, [], ◌∷◌, ◌++◌, length, Option, Some, None, Ok, Err, refl, sym, ap, subst, ◌∙◌, arith, append_assoc, inl, inr, ◌⊎◌}
use Rattle.std.proofs.lemmas.List.{length-append}
use Rattle.graphql_names.specs.Placed.{Placed}
use Rattle.read_tokens.specs.declared.terminal.Terminal.{Terminal}
use Rattle.read_grammar.specs.declared.parse_error.ParseError.{ParseError}
use Rattle.read_grammar.specs.declared.parse_error.ParseError.TheVariants.{Unexpected, Nesting, Memory}
use Rattle.read_tokens.specs.Input.{Token, Input, Ended, next, next_of, past}
use Rattle.read_grammar.specs.Meaning.{Meaning, begin_of, place_between}
use Rattle.read_grammar.specs.Kinds.{next_is}
use Rattle.read_grammar.specs.Rules as rule
use Rattle.read_grammar.specs.Rules.{Rule, one, ◌·◌, ◌<$>◌, ◌∣◌, optional, optional_unless, lacks}
use Rattle.read_grammar.specs.Reading as read
use Rattle.read_grammar.specs.Reading.{Outcome, Parser, and_then, ◌⊙◌, ◌<&>◌, refuse, take_from, take, when, try, placed}
use Rattle.read_grammar.proofs.Tests.{Test, any}

-- from the same place, with these tokens ahead
abbrev pub put : Input → List Token → Input
put i ts = record { last = i.last; ahead = ts; ending = Ended 0 }

-- the rule derives something from here up to this rest
abbrev pub Leaves : {A : Type 0} → Rule A → Input → List Token → Type 0
Leaves {A} r i rest = (x : A) × (o : Input) × (o.ahead ≡ rest) × r i x o

-- what may follow: it is of a class, or begins as what was there
abbrev pub Follows : Test → Option Terminal → List Token → Type 0
Follows f old rest = (f (next_of rest) ≡ true) ⊎ (next_of rest ≡ old)

-- there is a text of the rule in front of whatever may follow
pub record Fills {A : Type 0} (r : Rule A) (f : Test) : Type 0 where
  pub fill : (rest : List Token) → f (next_of rest) ≡ true → (more : List Token) × (length rest ≤ length more) × ((i : Input) → i.ahead ≡ more → Leaves r i rest)

-- At a bracket too many what is put there begins with the bracket.
abbrev pub Starts : ParseError → List Token → List Token → List Token → Type 0
Starts Nesting ahead rest more = (b : Token) × (after : List Token) × (later : List Token) × (ahead ≡ b ∷ after) × (more ≡ b ∷ later) × (length rest ≤ length later)
Starts stop ahead rest more = Unit {0}

abbrev pub Goes : {A : Type 0} → Bool → Rule A → Test → Input → Outcome A → Type 0
Goes k r f i (Ok z) =
    (taken : List Token) × (i.ahead ≡ taken ++ z.1.ahead) × (k ≡ true → 1 ≤ length taken) × ((rest : List Token) → Follows f (next z.1) rest → r (put i (taken ++ rest)) z.0 (put z.1 rest))
Goes k r f i (Err g) =
    (taken : List Token) × (i.ahead ≡ taken ++ g.1.ahead) × ((rest : List Token) → f (next_of rest) ≡ true → (more : List Token) × (length rest ≤ length more) × Starts g.0 g.1.ahead rest more × Leaves r (put i (taken ++ more)) rest)

-- k: it takes a token at least; f: what may follow
pub record Viable {A : Type 0} (k : Bool) (r : Rule A) (p : Parser A) (f : Test) : Type 0 where
  pub fills : Fills r f
  pub at : (i : Input) → Goes k r f i (p i)

-- ---- stops at once

pub stops_at : {A : Type 0} (k : Bool) {r : Rule A} {f : Test} → Fills r f → (i : Input) → Goes {A = A} k r f i (Err (Unexpected, i))
stops_at k fs i = ([], refl, λ rest fo. let c = fs.fill rest fo in (c.0, c.1, tt, c.2 (put i c.0) refl))

pub refused : {A : Type 0} {k : Bool} {r : Rule A} {f : Test} → Fills r f → Viable k r refuse f
refused {k = k} fs = record { fills = fs; at = λ i. stops_at k fs i }

-- there is a text of the rule that begins with a token of a class, whichever this is
pub record FillsFrom {A : Type 0} (is : Terminal → Bool) (r : Rule A) (f : Test) : Type 0 where
  pub from : (b : Token) → is b.kind ≡ true → (rest : List Token) → f (next_of rest) ≡ true → (more : List Token) × (length rest ≤ length more) × ((i : Input) → i.ahead ≡ b ∷ more → Leaves r i rest)

pub from_fills : {A : Type 0} {is : Terminal → Bool} {r : Rule A} {f : Test} (kind : Terminal) → is kind ≡ true → FillsFrom is r f → Fills r f
from_fills kind e fs = record {
  fill = λ rest fo. let t : Token = record { kind = kind; text = []; offset = 0 } in let c = fs.from t e rest fo in let le = c.1 in (t ∷ c.0, omega arith, λ i h. c.2 i h);
}

pub from_into : {A : Type 0} (is : Terminal → Bool) {r s : Rule A} {f : Test} → ((i : Input) (x : A) (o : Input) → r i x o → s i x o) → FillsFrom is r f → FillsFrom is s f
from_into is to fs = record { from = λ b e rest fo. let c = fs.from b e rest fo in (c.0, c.1, λ i h. let l = c.2 i h in (l.0, l.1, l.2, to _ _ _ l.3)) }

-- where a bracket is next that is one too many
deep_at : {A : Type 0} (k : Bool) {is : Terminal → Bool} {r : Rule A} {f : Test} → FillsFrom is r f → (i : Input) (ts : List Token) → i.ahead ≡ ts → next_is is (next_of ts) ≡ true → Goes {A = A} k r f i (Err (Nesting, i))
deep_at k fs i [] e h = absurd cc
deep_at k fs i (b ∷ after) e h =
    ([], refl, λ rest fo. let c = fs.from b h rest fo in let le = c.1 in (b ∷ c.0, omega arith, (b, after, c.0, e, refl, le), c.2 (put i (b ∷ c.0)) refl))

pub deep_or : {A : Type 0} {k : Bool} {r : Rule A} {p q : Parser A} {f : Test} (is : Terminal → Bool) → ((i : Input) → p i ≡ Err (Nesting, i)) → FillsFrom is r f → Viable k r q f → Viable k r (when is p q) f
deep_or {A} {k} {r} {p} {q} {f} is stops fs h = record { fills = h.fills; at = λ i. by_case i (next_is is (next i)) refl }
  where
    by_case : (i : Input) (t : Bool) → next_is is (next i) ≡ t → Goes k r f i (cond t (p i) (q i))
    by_case i true e = rw (stops i) (deep_at k fs i i.ahead refl e)
    by_case i false e = h.at i

-- ---- another rule that holds where this one does

pub into : {A : Type 0} (k : Bool) {r s : Rule A} (f : Test) → ((i : Input) (x : A) (o : Input) → r i x o → s i x o) → (i : Input) (y : Outcome A) → Goes k r f i y → Goes k s f i y
into k f to i (Ok z) h = (h.0, h.1, h.2, λ rest fo. to _ _ _ (h.3 rest fo))
into k f to i (Err g) h = (h.0, h.1, λ rest fo. let c = h.2 rest fo in (c.0, c.1, c.2, (c.3.0, c.3.1, c.3.2, to _ _ _ c.3.3)))

pub fills_into : {A : Type 0} {r s : Rule A} {f : Test} → ((i : Input) (x : A) (o : Input) → r i x o → s i x o) → Fills r f → Fills s f
fills_into to fs = record { fill = λ rest fo. let c = fs.fill rest fo in (c.0, c.1, λ i e. let l = c.2 i e in (l.0, l.1, l.2, to _ _ _ l.3)) }

pub restated : {A : Type 0} {k : Bool} {r : Rule A} {p : Parser A} {f : Test} (s : Rule A) → ((i : Input) (x : A) (o : Input) → r i x o → s i x o) → Viable k r p f → Viable k s p f
restated {k = k} {p = p} {f = f} s to h = record { fills = fills_into to h.fills; at = λ i. into k f to i (p i) (h.at i) }

-- ---- one token

pub token_fills : (is : Terminal → Bool) (kind : Terminal) → is kind ≡ true → Fills (one is) any
token_fills is kind e = record {
  fill = λ rest fo. let t : Token = record { kind = kind; text = []; offset = 0 } in (t ∷ rest, omega arith, λ i h. (t, past i t rest, refl, (e, (rest, h, refl))));
}

pub token : (is : Terminal → Bool) (kind : Terminal) → is kind ≡ true → Viable true (one is) (take is) any
unfolding take
token is kind e = record { fills = token_fills is kind e; at = λ i. go i i.ahead refl }
  where
    by_test : (i : Input) (t : Token) (ts : List Token) (b : Bool) → is t.kind ≡ b → i.ahead ≡ t ∷ ts → Goes {A = Token} true (one is) any i (cond b (Ok (t, past i t ts)) (Err (Unexpected, i)))
    by_test i t ts true h same = (t ∷ [], same, λ k. omega arith, λ rest fo. (h, (rest, refl, refl)))
    by_test i t ts false h same = stops_at true (token_fills is kind e) i

    go : (i : Input) (ts : List Token) → i.ahead ≡ ts → Goes true (one is) any i (take_from is i ts)
    go i [] same = stops_at true (token_fills is kind e) i
    go i (t ∷ ts) same = by_test i t ts (is t.kind) refl same

-- ---- the tree that f makes

pub mapped_fills : {A B : Type 0} {r : Rule A} {f : Test} (g : A → B) → Fills r f → Fills (g <$> r) f
mapped_fills g fs = record { fill = λ rest fo. let c = fs.fill rest fo in (c.0, c.1, λ i e. let l = c.2 i e in (g l.0, l.1, l.2, (l.0, l.3, refl))) }

mapped_at : {A B : Type 0} (k : Bool) (r : Rule A) (f : Test) (g : A → B) (i : Input) (y : Outcome A) → Goes k r f i y → Goes k (g <$> r) f i (and_then y (λ x o. Ok (g x, o)))
mapped_at k r f g i (Ok z) h = (h.0, h.1, h.2, λ rest fo. (z.0, h.3 rest fo, refl))
mapped_at k r f g i (Err s) h = (h.0, h.1, λ rest fo. let c = h.2 rest fo in (c.0, c.1, c.2, (g c.3.0, c.3.1, c.3.2, (c.3.0, c.3.3, refl))))

pub mapped : {A B : Type 0} {k : Bool} {r : Rule A} {p : Parser A} {f : Test} (g : A → B) → Viable k r p f → Viable k (g <$> r) (g <&> p) f
mapped {k = k} {r = r} {p = p} {f = f} g h = record { fills = mapped_fills g h.fills; at = λ i. mapped_at k r f g i (p i) (h.at i) }

pub mark_fills : (is : Terminal → Bool) (kind : Terminal) → is kind ≡ true → Fills (rule.mark is) any
mark_fills is kind e = mapped_fills (λ _. tt) (token_fills is kind e)

pub mark : (is : Terminal → Bool) (kind : Terminal) → is kind ≡ true → Viable true (rule.mark is) (read.mark is) any
mark is kind e = mapped (λ _. tt) (token is kind e)

-- fewer may follow
pub fewer_fills : {A : Type 0} {r : Rule A} (f : Test) → Fills r any → Fills r f
fewer_fills f fs = record { fill = λ rest fo. fs.fill rest refl }

pub weaker : {A : Type 0} {k : Bool} {r : Rule A} {p : Parser A} (f : Test) → Viable k r p any → Viable k r p f
weaker {A} {k} {r} {p} f h = record {
  fills = fewer_fills f h.fills;
  at = λ i. go i (p i) (h.at i);
}
  where
    go : (i : Input) (y : Outcome A) → Goes k r any i y → Goes k r f i y
    go i (Ok z) g = (g.0, g.1, g.2, λ rest fo. g.3 rest (inl refl))
    go i (Err s) g = (g.0, g.1, λ rest fo. g.2 rest refl)

-- ---- one after the other

abbrev pub or : Bool → Bool → Bool
or a b = cond a true b

some_taken : (k l : Bool) (xs ys : List Token) → (k ≡ true → 1 ≤ length xs) → (l ≡ true → 1 ≤ length ys) → or k l ≡ true → 1 ≤ length (xs ++ ys)
some_taken true l xs ys a b e = let c = a refl in omega (arith, length-append xs ys)
some_taken false l xs ys a b e = let c = b e in omega (arith, length-append xs ys)

pub fewer_starts : (stop : ParseError) (ahead rest less more : List Token) → length less ≤ length rest → Starts stop ahead rest more → Starts stop ahead less more
fewer_starts Nesting ahead rest less more le h = let k = h.5 in (h.0, h.1, h.2, h.3, h.4, omega arith)
fewer_starts Unexpected ahead rest less more le h = tt
fewer_starts Memory ahead rest less more le h = tt

-- the second may depend on the tree of the first; what is put in front of a rest does not
module _ {A B : Type 0} {k : Bool} (l : Bool) {r : Rule A} (s : A → Rule B) (u : Rule B) {p : Parser A} (q : A → Parser B) (f : Test) (join : (i : Input) (x : A) (m : Input) (y : B) (o : Input) → r i x m → s x m y o → u i y o) (fs : (rest : List Token) → f (next_of rest) ≡ true → (more : List Token) × (length rest ≤ length more) × ((x : A) (i : Input) → i.ahead ≡ more → Leaves (s x) i rest)) (pp : Viable k r p any) (qq : (x : A) (i : Input) → Goes l (s x) f i (q x i)) where
  second : (i : Input) (x : A) (m : Input) (taken : List Token) → i.ahead ≡ taken ++ m.ahead → (k ≡ true → 1 ≤ length taken) → ((rest : List Token) → Follows any (next m) rest → r (put i (taken ++ rest)) x (put m rest)) → (y : Outcome B) → Goes l (s x) f m y → Goes (or k l) u f i y
  second i x m taken e n rr (Ok z) h = (
    taken ++ h.0,
    e ∙ ap (λ (ts : List Token). taken ++ ts) h.1 ∙ sym (append_assoc taken h.0 z.1.ahead),
    some_taken k l taken h.0 n h.2,
    λ rest fo. subst (λ (ts : List Token). u (put i ts) z.0 (put z.1 rest)) (sym (append_assoc taken h.0 rest)) (join _ x (put m (h.0 ++ rest)) z.0 _ (rr (h.0 ++ rest) (inl refl)) (h.3 rest fo)),
  )
  second i x m taken e n rr (Err g) h = (
    taken ++ h.0,
    e ∙ ap (λ (ts : List Token). taken ++ ts) h.1 ∙ sym (append_assoc taken h.0 g.1.ahead),
    λ rest fo. let c = h.2 rest fo in
        (c.0, c.1, c.2, subst (λ (ts : List Token). Leaves u (put i ts) rest) (sym (append_assoc taken h.0 c.0)) (c.3.0, c.3.1, c.3.2, join _ x (put m (h.0 ++ c.0)) c.3.0 _ (rr (h.0 ++ c.0) (inl refl)) c.3.3)),
  )

  first : (i : Input) (y : Outcome A) → Goes k r any i y → Goes (or k l) u f i (and_then y q)
  first i (Ok z) h = second i z.0 z.1 h.0 h.1 h.2 h.3 (q z.0 z.1) (qq z.0 z.1)
  first i (Err g) h = (
    h.0,
    h.1,
    λ rest fo.
        let c = fs rest fo in
        let d = h.2 c.0 refl in
        let b = c.2 d.3.0 d.3.1 d.3.2 in
        let short = c.1 in let longer = d.1 in
        (d.0, omega arith, fewer_starts g.0 g.1.ahead c.0 rest d.0 short d.2, (b.0, b.1, b.2, join _ d.3.0 d.3.1 b.0 _ d.3.3 b.3)),
  )

  pub bound : Viable (or k l) u (λ i. and_then (p i) q) f
  bound = record {
    fills = record {
      fill = λ rest fo.
          let c = fs rest fo in
          let d = pp.fills.fill c.0 refl in
          let short = c.1 in let longer = d.1 in
          (d.0, omega arith, λ i e. let a = d.2 i e in let b = c.2 a.0 a.1 a.2 in (b.0, b.1, b.2, join _ a.0 a.1 b.0 _ a.3 b.3));
    };
    at = λ i. first i (p i) (pp.at i);
  }

pub seq_fills : {A B : Type 0} {r : Rule A} {s : Rule B} {f : Test} → Fills r any → Fills s f → Fills (r · s) f
seq_fills rs ss = record {
  fill = λ rest fo.
      let c = ss.fill rest fo in
      let d = rs.fill c.0 refl in
      let short = c.1 in let longer = d.1 in
      (d.0, omega arith, λ i e. let a = d.2 i e in let b = c.2 a.1 a.2 in ((a.0, b.0), b.1, b.2, (a.1, a.3, b.3)));
}

pub seq : {A B : Type 0} {k l : Bool} {r : Rule A} {s : Rule B} {p : Parser A} {q : Parser B} {f : Test} → Viable k r p any → Viable l s q f → Viable (or k l) (r · s) (p ⊙ q) f
seq {A} {B} {k} {l} {r} {s} {p} {q} {f} pp qq =
    bound l (λ x. (λ y. (x, y)) <$> s) (r · s) (λ x m. and_then (q m) (λ y o. Ok ((x, y), o))) f (λ i x m y o a b. subst (λ (w : A × B). (r · s) i w o) (sym b.2) (m, a, b.1))
    (λ rest fo. let c = qq.fills.fill rest fo in (c.0, c.1, λ x i e. let a = c.2 i e in ((x, a.0), a.1, a.2, (a.0, a.3, refl)))) pp (λ x i. mapped_at l s f (λ y. (x, y)) i (q i) (qq.at i))

-- ---- one or the other

pub left_fills : {A : Type 0} {r : Rule A} (s : Rule A) {f : Test} → Fills r f → Fills (r ∣ s) f
left_fills s fs = fills_into (λ i x o h. inl h) fs

-- which of two parsers of one rule the next token tells
pub choice : {A : Type 0} {k : Bool} {r : Rule A} {p q : Parser A} {f : Test} (is : Terminal → Bool) → Viable k r p f → Viable k r q f → Viable k r (when is p q) f
choice {A} {k} {r} {p} {q} {f} is h g = record { fills = h.fills; at = λ i. by_case (next_is is (next i)) i }
  where
    by_case : (t : Bool) (i : Input) → Goes k r f i (cond t (p i) (q i))
    by_case true i = h.at i
    by_case false i = g.at i

pub alternative : {A : Type 0} {k : Bool} {r s : Rule A} {p q : Parser A} {f : Test} (is : Terminal → Bool) → Viable k r p f → Viable k s q f → Viable k (r ∣ s) (when is p q) f
alternative {r = r} {s = s} is h g = choice is (restated (r ∣ s) (λ i x o a. inl a) h) (restated (r ∣ s) (λ i x o a. inr a) g)

-- the last of several
pub only : {A : Type 0} {k : Bool} {r : Rule A} {p : Parser A} {f : Test} (is : Terminal → Bool) → Viable k r p f → Viable k r (when is p refuse) f
only is h = choice is h (refused h.fills)

-- the first may be forbidden
pub alternative_unless : {A : Type 0} {k : Bool} {r s : Rule A} {p q : Parser A} {f : Test} (forbidden : Bool) (is : Terminal → Bool) → Viable k r p f → Viable k s q f → Viable k (rule.unless forbidden r ∣ s) (when is (read.unless forbidden p) q) f
alternative_unless {s = s} true is h g = choice is (refused (fills_into (λ i x o a. inr a) g.fills)) (restated (rule.nothing ∣ s) (λ i x o a. inr a) g)
alternative_unless false is h g = alternative is h g

-- ---- none or one

pub none_fills : {A : Type 0} (r : Rule A) {f : Test} → Fills (optional r) f
none_fills r = record { fill = λ rest fo. (rest, omega arith, λ i e. (None, i, e, refl)) }

pub maybe : {A : Type 0} {k : Bool} {r : Rule A} {p : Parser A} {f : Test} (is : Terminal → Bool) → Viable k r p f → Viable false (optional r) (try is p) f
maybe {A} {k} {r} {p} {f} is h = record { fills = none_fills r; at = λ i. by_case (next_is is (next i)) i }
  where
    taken : (i : Input) (y : Outcome A) → Goes k r f i y → Goes false (optional r) f i (and_then y (λ x o. Ok (Some x, o)))
    taken i (Ok z) g = (g.0, g.1, λ never. absurd cc, g.3)
    taken i (Err s) g = (g.0, g.1, λ rest fo. let c = g.2 rest fo in (c.0, c.1, c.2, (Some c.3.0, c.3.1, c.3.2, c.3.3)))

    by_case : (t : Bool) (i : Input) → Goes false (optional r) f i (cond t (and_then (p i) (λ x o. Ok (Some x, o))) (Ok (None, i)))
    by_case true i = taken i (p i) (h.at i)
    by_case false i = ([], refl, λ never. absurd cc, λ rest fo. refl)

lacks_is : (is : Terminal → Bool) (n : Option Terminal) → next_is is n ≡ false → lacks is n ≡ true
lacks_is is None h = refl
lacks_is is (Some kind) h = rw h refl

pub none_unless_fills : {A : Type 0} (is : Terminal → Bool) (r : Rule A) → Fills (optional_unless is r) (lacks is)
none_unless_fills is r = record { fill = λ rest fo. (rest, omega arith, λ i e. (None, i, e, (refl, ap (λ (ts : List Token). lacks is (next_of ts)) e ∙ fo))) }

pub maybe_unless : {A : Type 0} {k : Bool} {r : Rule A} {p : Parser A} (is : Terminal → Bool) → Viable k r p any → Viable false (optional_unless is r) (try is p) (lacks is)
maybe_unless {A} {k} {r} {p} is h = record { fills = none_unless_fills is r; at = λ i. by_case (next_is is (next i)) i refl }
  where
    taken : (i : Input) (y : Outcome A) → Goes k r any i y → Goes false (optional_unless is r) (lacks is) i (and_then y (λ x o. Ok (Some x, o)))
    taken i (Ok z) g = (g.0, g.1, λ never. absurd cc, λ rest fo. g.3 rest (inl refl))
    taken i (Err s) g = (g.0, g.1, λ rest fo. let c = g.2 rest refl in (c.0, c.1, c.2, (Some c.3.0, c.3.1, c.3.2, c.3.3)))

    lacked : (i : Input) → next_is is (next i) ≡ false → (rest : List Token) → Follows (lacks is) (next i) rest → lacks is (next_of rest) ≡ true
    lacked i none rest (inl h) = h
    lacked i none rest (inr h) = ap (λ (n : Option Terminal). lacks is n) h ∙ lacks_is is (next i) none

    by_case : (t : Bool) (i : Input) → next_is is (next i) ≡ t → Goes false (optional_unless is r) (lacks is) i (cond t (and_then (p i) (λ x o. Ok (Some x, o))) (Ok (None, i)))
    by_case true i e = taken i (p i) (h.at i)
    by_case false i e = ([], refl, λ never. absurd cc, λ rest fo. (refl, lacked i e rest fo))

-- ---- with its place

begin_same : (taken a b : List Token) → 1 ≤ length taken → begin_of (taken ++ a) ≡ begin_of (taken ++ b)
begin_same [] a b h = absurd (omega arith)
begin_same (t ∷ ts) a b h = refl

pub located_fills : {P A : Type 0} {r : Rule A} {f : Test} (m : Meaning P) → Fills r f → Fills (rule.placed m r) f
located_fills m fs = record { fill = λ rest fo. let c = fs.fill rest fo in (c.0, c.1, λ i e. let l = c.2 i e in (record { it = l.0; place = place_between m i l.1 }, l.1, l.2, (l.3, refl))) }

abbrev put_at : {P A : Type 0} → A → P → Placed P A
put_at x place = record { it = x; place = place }

pub located : {P A : Type 0} {r : Rule A} {p : Parser A} {f : Test} (m : Meaning P) → Viable true r p f → Viable true (rule.placed m r) (placed m p) f
located {P} {A} {r} {p} {f} m h = record { fills = located_fills m h.fills; at = λ i. go i (p i) (h.at i) }
  where
    go : (i : Input) (y : Outcome A) → Goes true r f i y → Goes true (rule.placed m r) f i (and_then y (λ x o. Ok (put_at x (place_between m i o), o)))
    go i (Ok z) g =
        (g.0, g.1, g.2, λ rest fo. (g.3 rest fo, ap (λ (b : ℕ). m.place b z.1.last) (ap begin_of g.1 ∙ begin_same g.0 z.1.ahead rest (g.2 refl))))
    go i (Err s) g = (g.0, g.1, λ rest fo. let c = g.2 rest fo in (c.0, c.1, c.2, (put_at c.3.0 (place_between m (put i (g.0 ++ c.0)) c.3.1), c.3.1, c.3.2, (c.3.3, refl))))

-- of taking a token nothing is said
pub loose : {A : Type 0} {k : Bool} {r : Rule A} {p : Parser A} {f : Test} → Viable k r p f → Viable false r p f
loose {A} {k} {r} {p} {f} h = record { fills = h.fills; at = λ i. go i (p i) (h.at i) }
  where
    go : (i : Input) (y : Outcome A) → Goes k r f i y → Goes false r f i y
    go i (Ok z) g = (g.0, g.1, λ never. absurd cc, g.3)
    go i (Err s) g = g
