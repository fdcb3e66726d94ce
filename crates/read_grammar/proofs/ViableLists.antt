-- Where a parser of a list or of brackets stops, the tokens before begin some text of its rule.
use Rattle.std.proofs.Common.{◌≡◌, ℕ, zero, suc, ◌≤◌, Bool, true, false, cond, List, [], ◌∷◌, ◌++◌, length, Ok, Err, refl, sym, ap, subst, ◌∙◌, arith, append_assoc, inl, inr}
use Rattle.read_tokens.specs.declared.terminal.Terminal.{Terminal}
use Rattle.read_grammar.specs.declared.parse_error.ParseError.{ParseError}
use Rattle.read_grammar.specs.declared.parse_error.ParseError.TheVariants.{Unexpected, Nesting, Memory}
use Rattle.read_tokens.specs.Input.{Token, Input, next, next_of, past}
use Rattle.read_grammar.specs.Kinds.{next_is}
use Rattle.read_grammar.specs.Rules as rule
use Rattle.read_grammar.specs.Rules.{Rule, ◌<$>◌}
use Rattle.read_grammar.specs.Reading as read
use Rattle.read_grammar.specs.Reading.{Outcome, Parser, and_then, refuse, too_deep, when, many_within, many, some, between}
use Rattle.read_grammar.proofs.Tests.{Test, any}
use Rattle.read_grammar.proofs.Viable.{put, Leaves, Follows, Fills, FillsFrom, Starts, Goes, Viable, stops_at, refused, from_fills, deep_or, into, mapped, mapped_fills, mark, mark_fills, seq, seq_fills, maybe}

some_many : {A : Type 0} (r : Rule A) (i : Input) (xs : List A) (o : Input) → rule.some r i xs o → rule.many r i xs o
some_many r i [] o h = absurd h
some_many r i (x ∷ xs) o h = h

pub many_fills : {A : Type 0} (r : Rule A) {f : Test} → Fills (rule.many r) f
many_fills r = record { fill = λ rest fo. (rest, omega arith, λ i e. ([], i, e, refl)) }

pub some_fills : {A : Type 0} {r : Rule A} {f : Test} → Fills r f → Fills (rule.some r) f
some_fills fs = record { fill = λ rest fo. let c = fs.fill rest fo in (c.0, c.1, λ i e. let l = c.2 i e in (l.0 ∷ [], l.1, l.2, (l.1, l.3, refl))) }

module _ {A : Type 0} {k : Bool} {r : Rule A} {p : Parser A} {f : Test} (begins : Terminal → Bool) (h : Viable k r p f) where
  goes_on : (ts : List Token) (m o : Input) → m.ahead ≡ ts ++ o.ahead → (rest : List Token) → Follows f (next o) rest → Follows f (next m) (ts ++ rest)
  goes_on [] m o e rest (inl a) = inl a
  goes_on [] m o e rest (inr a) = inr (a ∙ ap next_of (sym e))
  goes_on (t ∷ ts) m o e rest a = inr (ap next_of (sym e))

  -- after an item the parser of the others stops: if at once, at a token that cannot follow, the item was the last
  stopped : (i : Input) (x : A) (m : Input) (taken : List Token) → i.ahead ≡ taken ++ m.ahead → ((rest : List Token) → Follows f (next m) rest → r (put i (taken ++ rest)) x (put m rest)) → (stop : ParseError) (o : Input) (others : List Token) → m.ahead ≡ others ++ o.ahead
      → ((rest : List Token) → f (next_of rest) ≡ true → (more : List Token) × (length rest ≤ length more) × Starts stop o.ahead rest more × Leaves (rule.many r) (put m (others ++ more)) rest) → Goes {A = List A} false (rule.some r) f i (Err (stop, o))
  stopped i x m taken e rr Unexpected o [] e' g =
      (taken, e ∙ ap (λ (ts : List Token). taken ++ ts) e', λ rest fo. (rest, omega arith, tt, (x ∷ [], put m rest, refl, (put m rest, rr rest (inl fo), refl))))
  stopped i x m taken e rr Memory o [] e' g =
      (taken, e ∙ ap (λ (ts : List Token). taken ++ ts) e', λ rest fo. (rest, omega arith, tt, (x ∷ [], put m rest, refl, (put m rest, rr rest (inl fo), refl))))
  stopped i x m taken e rr Nesting o [] e' g = (
    taken,
    e ∙ ap (λ (ts : List Token). taken ++ ts) e',
    λ rest fo.
        let c = g rest fo in
        (c.0, c.1, c.2, (x ∷ c.3.0, c.3.1, c.3.2, (put m c.0, rr c.0 (inr (ap next_of c.2.4 ∙ sym (ap next_of c.2.3) ∙ sym (ap next_of e'))), c.3.3))),
  )
  stopped i x m taken e rr stop o (t ∷ ts) e' g = (
    taken ++ t ∷ ts,
    e ∙ ap (λ (us : List Token). taken ++ us) e' ∙ sym (append_assoc taken (t ∷ ts) o.ahead),
    λ rest fo. let c = g rest fo in
        (c.0, c.1, c.2, subst (λ (us : List Token). Leaves (rule.some r) (put i us) rest) (sym (append_assoc taken (t ∷ ts) c.0)) (x ∷ c.3.0, c.3.1, c.3.2, (put m ((t ∷ ts) ++ c.0), rr ((t ∷ ts) ++ c.0) (inr (ap next_of (sym e'))), c.3.3))),
  )

  others : (i : Input) (x : A) (m : Input) (taken : List Token) → i.ahead ≡ taken ++ m.ahead → ((rest : List Token) → Follows f (next m) rest → r (put i (taken ++ rest)) x (put m rest)) → (y : Outcome (List A)) → Goes false (rule.many r) f m y → Goes false (rule.some r) f i (and_then y (λ xs o. Ok (x ∷ xs, o)))
  others i x m taken e rr (Ok z) g = (
    taken ++ g.0,
    e ∙ ap (λ (ts : List Token). taken ++ ts) g.1 ∙ sym (append_assoc taken g.0 z.1.ahead),
    λ never. absurd cc,
    λ rest fo. subst (λ (ts : List Token). rule.some r (put i ts) (x ∷ z.0) (put z.1 rest)) (sym (append_assoc taken g.0 rest)) (put m (g.0 ++ rest), rr (g.0 ++ rest) (goes_on g.0 m z.1 g.1 rest fo), g.3 rest fo),
  )
  others i x m taken e rr (Err s) g = stopped i x m taken e rr s.0 s.1 g.0 g.1 g.2

  item : (i : Input) (y : Outcome A) (q : Parser (List A)) → ((m : Input) → Goes false (rule.many r) f m (q m)) → Goes k r f i y → Goes false (rule.some r) f i (and_then y (λ x m. and_then (q m) (λ xs o. Ok (x ∷ xs, o))))
  item i (Ok z) q rest g = others i z.0 z.1 g.0 g.1 g.3 (q z.1) (rest z.1)
  item i (Err s) q rest g = (g.0, g.1, λ rest fo. let c = g.2 rest fo in (c.0, c.1, c.2, (c.3.0 ∷ [], c.3.1, c.3.2, (c.3.1, c.3.3, refl))))

  many_at : (n : ℕ) (i : Input) → Goes false (rule.many r) f i (many_within begins p n i)
  unfolding many_within
  many_at zero i = ([], refl, λ never. absurd cc, λ rest fo. refl)
  many_at (suc n) i = by_case (next_is begins (next i)) (many_at n)
    where
      by_case : (t : Bool) → ((m : Input) → Goes false (rule.many r) f m (many_within begins p n m)) → Goes false (rule.many r) f i (cond t (and_then (p i) (λ x m. and_then (many_within begins p n m) (λ xs o. Ok (x ∷ xs, o)))) (Ok ([], i)))
      by_case true rest = into false f (some_many r) i _ (item i (p i) (many_within begins p n) rest (h.at i))
      by_case false rest = ([], refl, λ never. absurd cc, λ rest fo. refl)

  pub several : Viable false (rule.many r) (many begins p) f
  unfolding many
  several = record { fills = many_fills r; at = λ i. many_at (length i.ahead) i }

  none_begins : (ts : List Token) → length ts ≤ 0 → next_is begins (next_of ts) ≡ true → ⊥
  none_begins [] le e = absurd cc
  none_begins (t ∷ ts) le e = absurd (omega arith)

  some_at : (n : ℕ) (i : Input) → length i.ahead ≤ n → next_is begins (next i) ≡ true → Goes false (rule.some r) f i (many_within begins p n i)
  unfolding many_within
  some_at zero i le e = absurd (none_begins i.ahead le e)
  some_at (suc n) i le e = rw e (item i (p i) (many_within begins p n) (many_at n) (h.at i))

  pub one_or_more : Viable false (rule.some r) (some begins p) f
  unfolding some many
  one_or_more = record { fills = some_fills h.fills; at = λ i. by_case i (next_is begins (next i)) refl }
    where
      by_case : (i : Input) (t : Bool) → next_is begins (next i) ≡ t → Goes false (rule.some r) f i (cond t (many_within begins p (length i.ahead) i) (refuse i))
      by_case i true e = some_at (length i.ahead) i (omega arith) e
      by_case i false e = stops_at false (some_fills h.fills) i

-- one or more with marks between
pub separated : {A : Type 0} {r : Rule A} {p : Parser A} (is : Terminal → Bool) (kind : Terminal) → is kind ≡ true → Viable true r p any → Viable true (rule.separated is r) (read.separated is p) any
separated is kind e h = mapped (λ x. x.1.0 ∷ x.1.1) (seq (maybe is (mark is kind e)) (seq h (several is (mapped (λ x. x.1) (seq (mark is kind e) h)))))

-- ---- between brackets

pub enclosed_fills : {A : Type 0} {r : Rule A} (opening closing : Terminal → Bool) (a b : Terminal) → opening a ≡ true → closing b ≡ true → Fills r any → Fills (rule.between opening r closing) any
enclosed_fills opening closing a b ea eb fs = mapped_fills (λ x. x.1.0) (seq_fills (mark_fills opening a ea) (seq_fills fs (mark_fills closing b eb)))

pub enclosed : {A : Type 0} {k : Bool} {r : Rule A} {p : Parser A} (opening closing : Terminal → Bool) (a b : Terminal) → opening a ≡ true → closing b ≡ true → Viable k r p any → Viable true (rule.between opening r closing) (between opening p closing) any
enclosed opening closing a b ea eb h = mapped (λ x. x.1.0) (seq (mark opening a ea) (seq h (mark closing b eb)))

pub enclosed_from : {A : Type 0} {r : Rule A} (opening closing : Terminal → Bool) (b : Terminal) → closing b ≡ true → Fills r any → FillsFrom opening (rule.between opening r closing) any
enclosed_from {A} {r} opening closing b eb fs = record {
  from = λ t is rest fo.
      let c = (seq_fills fs (mark_fills closing b eb)).fill rest refl in
      (c.0, c.1, λ i e. let l = c.2 (past i t c.0) refl in (l.0.0, l.1, l.2, ((tt, l.0), (past i t c.0, (t, (is, (c.0, e, refl)), refl), l.3), refl)));
}

pub mapped_from : {A B : Type 0} (is : Terminal → Bool) {r : Rule A} {f : Test} (g : A → B) → FillsFrom is r f → FillsFrom is (g <$> r) f
mapped_from is g fs = record { from = λ b e rest fo. let c = fs.from b e rest fo in (c.0, c.1, λ i h. let l = c.2 i h in (g l.0, l.1, l.2, (l.0, l.3, refl))) }

-- brackets where none may open
pub none_deep : {A : Type 0} {r : Rule A} (opening : Terminal → Bool) (kind : Terminal) → opening kind ≡ true → FillsFrom opening r any → Viable true r (when opening too_deep refuse) any
none_deep opening kind e fs = deep_or opening (λ i. refl) fs (refused (from_fills kind e fs))
