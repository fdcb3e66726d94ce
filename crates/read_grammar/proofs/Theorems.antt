-- What the reading of all tokens says of a symbol.
use Rattle.std.proofs.Common.{◌≡◌, ◌≢◌, ℕ, suc, ◌+◌, ◌≤◌, Bool, true, List, [], ◌∷◌, ◌++◌, length, Option, Some, None, Ok, Err, refl, sym, ap, subst, ◌∙◌, arith, append_assoc, inl, inr}
use Rattle.std.proofs.lemmas.List.{append-nil}
use Rattle.read_tokens.specs.declared.terminal.Terminal.{Terminal}
use Rattle.read_tokens.specs.declared.terminal.Terminal.TheVariants as terminal
use Rattle.read_tokens.specs.Input.{Token, Input, Ending, Ended, NoTokenAt, next, next_of}
use Rattle.read_grammar.specs.declared.parse_error.ParseError.{ParseError}
use Rattle.read_grammar.specs.declared.parse_error.ParseError.TheVariants.{Unexpected, Nesting, Memory}
use Rattle.read_grammar.specs.Meaning.{start, begin_of}
use Rattle.read_grammar.specs.Kinds.{next_is}
use Rattle.read_grammar.specs.Rules.{Rule}
use Rattle.read_grammar.specs.Grammar.{DerivesAs}
use Rattle.read_grammar.specs.Depth.{is_opening, is_closing, depth}
use Rattle.read_grammar.specs.Faults as faults
use Rattle.read_grammar.specs.Faults.{BeginsSome, Says, IsTooDeep}
use Rattle.read_grammar.specs.Stops.{fault_of, unexpected_at, ending_fault}
use Rattle.read_grammar.specs.Reading.{Outcome, Parser, ended, ended_at, whole}
use Rattle.read_grammar.proofs.Tests.{Test}
use Rattle.read_grammar.proofs.Exact.{then_ok, ok_is}
use Rattle.read_grammar.proofs.Steady as t
use Rattle.read_grammar.proofs.Steady.{Steady, Fork, Alike, here, done, further, AlikeIn, Related, RelatedAt}
use Rattle.read_grammar.proofs.Nests as l
use Rattle.read_grammar.proofs.Nests.{Nested, At, StopsAt, Closed}
use Rattle.read_grammar.proofs.Keeps as kept
use Rattle.read_grammar.proofs.Keeps.{Keeps, ending_of}
use Rattle.read_grammar.proofs.Parses.{Parses}
use Rattle.read_grammar.proofs.Viable.{Viable}
use Rattle.read_grammar.proofs.Before.{done_at, stop_at, stop_of, place_of, BeginsBefore, before_stop, may_nest}

-- ---- lists that diverge after a token

abbrev fork_at : Token → List Token → List Token → Fork
fork_at b r s = record { far = suc (length r); b = b; r = r; s = s }

parted : (front : List Token) (b : Token) (r s : List Token) → Alike (fork_at b r s) (front ++ b ∷ r) (front ++ b ∷ s)
parted [] b r s = here (omega arith)
parted (t ∷ front) b r s = further (parted front b r s)

abbrev anything : Token
anything = record { kind = terminal.Name; text = []; offset = 0 }

abbrev nowhere : Fork
nowhere = record { far = 0; b = anything; r = []; s = [] }

same : (ts : List Token) → Alike nowhere ts ts
same [] = done refl
same (t ∷ ts) = further (same ts)

next_none : (ts : List Token) → next_of ts ≡ None → ts ≡ []
next_none [] e = refl
next_none (t ∷ ts) e = absurd cc

-- from any input whose tokens begin a text, as from its first token
from_start : (i : Input) → i.last ≡ 0 → AlikeIn nowhere i (start i.ahead)
from_start i e = record { last = e; ahead = same i.ahead }

module _ {A : Type 0} where
  -- a stop at the end, and none before
  ended_steady : (x : A) → Steady 0 (ended x) (ended x)
  ended_steady x = record {
    shorter = λ i. by_length (next i) i;
    alike = λ a i j h. by_next a i j h (next i) (next j) (t.next_alike h.ahead);
  }
    where
      by_length : (n : Option Terminal) (i : Input) → t.Shorter 0 (length i.ahead) (ended_at x i n)
      by_length None i = omega arith
      by_length (Some kind) i = omega arith

      by_next : (a : Fork) (i j : Input) → AlikeIn a i j → (n m : Option Terminal) → n ≡ m → Related a (ended_at x i n) (ended_at x j m)
      by_next a i j h None None e = inr (j, refl, h)
      by_next a i j h (Some kind) (Some other) e = inr (j, refl, h)
      by_next a i j h None (Some other) e = absurd cc
      by_next a i j h (Some kind) None e = absurd cc

  ended_nested : (n : ℕ) (x : A) → Nested n (ended x)
  ended_nested n x = record { at = λ i. go i (next i) }
    where
      go : (i : Input) (m : Option Terminal) → At n i.ahead (ended_at x i m)
      go i None = (l.given n x).at i
      go i (Some kind) = ([], refl, tt)

  ended_keeps : (x : A) → Keeps (ended x)
  ended_keeps x = record { ending = λ i. go i (next i) }
    where
      go : (i : Input) (m : Option Terminal) → ending_of (ended_at x i m) ≡ i.ending
      go i None = refl
      go i (Some kind) = refl

  ended_ok : (x : A) (o : Input) (z : A × Input) (n : Option Terminal) → next o ≡ n → ended_at x o n ≡ Ok z → ((x, o) ≡ z) × (o.ahead ≡ [])
  ended_ok x o z None e at = (ok_is (x, o) z at, next_none o.ahead e)
  ended_ok x o z (Some kind) e at = absurd cc

  stops_by : (a : Fork) (o : Input) (stop : ParseError) (q : Input) (w : Outcome A) → a.far ≤ length o.ahead → stop_at {A = A} stop q ≡ stop_at Unexpected o → RelatedAt a stop q w → (j : Input) × (w ≡ Err (Unexpected, j))
  stops_by a o Unexpected q w le at (inl h) = let e : q ≡ o = ap place_of at in let len = ap (λ (i : Input). length i.ahead) e in absurd (omega (arith, len))
  stops_by a o Unexpected q w le at (inr h) = (h.0, h.1)
  stops_by a o Nesting q w le at h = let no : Nesting ≡ Unexpected = ap stop_of at in absurd cc
  stops_by a o Memory q w le at h = let no : Memory ≡ Unexpected = ap stop_of at in absurd cc

  stops_too : (a : Fork) (o : Input) (y w : Outcome A) → a.far ≤ length o.ahead → y ≡ stop_at Unexpected o → Related a y w → (j : Input) × (w ≡ Err (Unexpected, j))
  stops_too a o (Ok z) w le at h = absurd cc
  stops_too a o (Err f) w le at h = stops_by a o f.0 f.1 w le at h

  nested_ok : (n : ℕ) (ts : List Token) (y : Outcome A) (x : A) (o : Input) → At n ts y → y ≡ Ok (x, o) → (taken : List Token) × (ts ≡ taken ++ o.ahead) × Closed n taken
  nested_ok n ts y x o h e = subst (At n ts) e h

  nested_err : (n : ℕ) (ts : List Token) (y : Outcome A) (stop : ParseError) (o : Input) → At n ts y → y ≡ Err (stop, o) → (taken : List Token) × (ts ≡ taken ++ o.ahead) × StopsAt n taken stop o
  nested_err n ts y stop o h e = subst (At n ts) e h

head_of : (o : Input) → next_is is_opening (next o) ≡ true → (b : Token) × (r : List Token) × (o.ahead ≡ b ∷ r) × (is_opening b.kind ≡ true)
head_of o h = go o.ahead h
  where
    go : (ts : List Token) → next_is is_opening (next_of ts) ≡ true → (b : Token) × (r : List Token) × (ts ≡ b ∷ r) × (is_opening b.kind ≡ true)
    go [] h = absurd cc
    go (b ∷ r) h = (b, r, refl, h)

-- ---- a symbol, read at any limit, which the end may follow

module _ {A : Type 0} {r : ℕ → Rule A} {p : ℕ → Parser A} {b e : Test} (parses : (n h : ℕ) → n ≤ h → Parses 0 n (r n) (p n) (p h) b e) (ends : e None ≡ true) where
  parses_at : (n : ℕ) → Parses 0 n (r n) (p n) (p n) b e
  parses_at n = parses n n (omega arith)

  whole_steady : (n m : ℕ) → n ≤ m → Steady 0 (whole p n) (whole p m)
  unfolding whole
  whole_steady n m le = t.counted 0 (omega arith) (t.bound (parses n m le).steady ended_steady)

  whole_nested : (n : ℕ) → Nested n (whole p n)
  unfolding whole
  whole_nested n = l.bound (parses_at n).nested (ended_nested n)

  whole_keeps : (n : ℕ) → Keeps (whole p n)
  unfolding whole
  whole_keeps n = kept.bound (parses_at n).keeps ended_keeps

  -- what is read is in the grammar
  whole_sound : (n : ℕ) (i : Input) (x : A) (o : Input) → whole p n i ≡ Ok (x, o) → r n i x o × (o.ahead ≡ [])
  unfolding whole
  whole_sound n i x o at =
      let h = then_ok (p n i) ended (x, o) at in
      let k = ended_ok h.0 h.1 (x, o) (next h.1) refl h.3 in
      subst (λ (w : A × Input). r n i w.0 w.1 × (w.1.ahead ≡ [])) k.0 ((parses_at n).exact.sound i h.0 h.1 h.2, k.1)

  -- what is in the grammar is read
  whole_complete : (n : ℕ) (i : Input) (x : A) (o : Input) → r n i x o → o.ahead ≡ [] → whole p n i ≡ Ok (x, o)
  unfolding whole
  whole_complete n i x o h none =
      let is : p n i ≡ Ok (x, o) = (parses_at n).exact.complete i x o h (rw none ends) in
      rw is (rw none refl)

  -- a higher limit reads what a lower one reads
  higher : (n m : ℕ) → n ≤ m → (i j : Input) (z : A × Input) → AlikeIn nowhere i j → whole p n i ≡ Ok z → (k : Input) × (whole p m j ≡ Ok (z.0, k))
  higher n m le i j z al at = go (whole p n i) at ((whole_steady n m le).alike nowhere i j al)
    where
      go : (y : Outcome A) → y ≡ Ok z → Related nowhere y (whole p m j) → (k : Input) × (whole p m j ≡ Ok (z.0, k))
      go (Ok w) at (inl h) = absurd (omega arith)
      go (Ok w) at (inr h) = (h.0, h.1 ∙ ap (λ (v : A × Input). Ok (v.0, h.0)) (ok_is w z at))
      go (Err f) at h = absurd cc

  -- what is derived is read at some higher limit
  read_at : (n : ℕ) (tokens : List Token) (tree : A) (d : DerivesAs r tokens tree) → (j : Input) × (whole p (n + d.0) (start tokens) ≡ Ok (tree, j))
  read_at n tokens tree d =
      higher d.0 (n + d.0) (omega arith) (start tokens) (start tokens) (tree, d.1) (from_start (start tokens) refl) (whole_complete d.0 (start tokens) tree d.1 d.3 d.2)

  -- Tokens derive one tree.
  pub one_tree : (tokens : List Token) (tree other : A) → DerivesAs r tokens tree → DerivesAs r tokens other → tree ≡ other
  one_tree tokens tree other d f =
      let up = read_at f.0 tokens tree d in
      let up' = higher f.0 (f.0 + d.0) (omega arith) (start tokens) (start tokens) (other, f.1) (from_start (start tokens) refl) (whole_complete f.0 (start tokens) other f.1 f.3 f.2) in
      ap (λ (z : A × Input). z.0) (ok_is (tree, up.0) (other, up'.0) (sym up.1 ∙ up'.1))

  module _ (n : ℕ) (i : Input) (begins : i.last ≡ 0) where
    -- what is read is derived, within the limit
    pub found : (tree : A) (o : Input) → whole p n i ≡ Ok (tree, o) → DerivesAs r i.ahead tree
    found tree o at =
        let up = higher n n (omega arith) i (start i.ahead) (tree, o) (from_start i begins) at in
        let h = whole_sound n (start i.ahead) tree up.0 up.1 in
        (n, up.0, h.1, h.0)

    pub within : (tree : A) (o : Input) → whole p n i ≡ Ok (tree, o) → depth i.ahead ≤ n
    within tree o at =
        let h = whole_sound n i tree o at in
        let k = nested_ok n i.ahead (whole p n i) tree o ((whole_nested n).at i) at in
        let all : i.ahead ≡ k.0 = k.1 ∙ ap (λ (ts : List Token). k.0 ++ ts) h.1 ∙ append-nil k.0 in
        subst (λ (ts : List Token). depth ts ≤ n) (sym all) k.2.deep

    -- what is read is what is derived at any limit
    pub same_tree : (tree other : A) (o : Input) → whole p n i ≡ Ok (tree, o) → DerivesAs r i.ahead other → tree ≡ other
    same_tree tree other o at d = one_tree i.ahead tree other (found tree o at) d

    -- No text begins with the tokens up to and with the one at which reading stops.
    pub stopped : (front : List Token) (c : Token) (rest : List Token) (o : Input) → i.ahead ≡ front ++ c ∷ rest → whole p n i ≡ Err (Unexpected, o) → o.ahead ≡ c ∷ rest → (more : List Token) (tree : A) → DerivesAs r (front ++ c ∷ more) tree → ⊥
    stopped front c rest o parts at left more tree d =
        let up = read_at n (front ++ c ∷ more) tree d in
        let len = ap (λ (ts : List Token). length ts) left in
        let far : suc (length rest) ≤ length o.ahead = omega (arith, len) in
        let al : AlikeIn (fork_at c rest more) i (start (front ++ c ∷ more)) = record { last = begins; ahead = subst (λ (ts : List Token). Alike (fork_at c rest more) ts (front ++ c ∷ more)) (sym parts) (parted front c rest more) } in
        let no = stops_too (fork_at c rest more) o (whole p n i) (whole p (n + d.0) (start (front ++ c ∷ more))) far at ((whole_steady n (n + d.0) (omega arith)).alike (fork_at c rest more) i (start (front ++ c ∷ more)) al) in
        let both : done_at tree up.0 ≡ stop_at Unexpected no.0 = sym up.1 ∙ no.1 in absurd cc

    -- Where reading stops, all tokens together derive nothing.
    pub ended_short : (o : Input) → whole p n i ≡ Err (Unexpected, o) → (tree : A) → DerivesAs r i.ahead tree → ⊥
    ended_short o at tree d =
        let up = read_at n i.ahead tree d in
        let far : 0 ≤ length o.ahead = omega arith in
        let no = stops_too nowhere o (whole p n i) (whole p (n + d.0) (start i.ahead)) far at ((whole_steady n (n + d.0) (omega arith)).alike nowhere i (start i.ahead) (from_start i begins)) in
        let both : done_at tree up.0 ≡ stop_at Unexpected no.0 = sym up.1 ∙ no.1 in absurd cc

    -- The bracket at which reading stops is the first one above the limit.
    pub too_deep_at : (o : Input) → whole p n i ≡ Err (Nesting, o) → IsTooDeep i.ahead n (begin_of o.ahead)
    too_deep_at o at =
        let k = nested_err n i.ahead (whole p n i) Nesting o ((whole_nested n).at i) at in
        let h = head_of o k.2.opening in
        let full = k.2.full in
        let ob : l.opens (h.0 ∷ []) ≡ 1 = rw h.3 refl in
        let cb : l.closes (h.0 ∷ []) ≡ 0 = rw (l.not_both h.0.kind h.3) refl in
        record {
          front = k.0;
          token = h.0;
          stands = record { rest = h.1; parts = k.1 ∙ ap (λ (ts : List Token). k.0 ++ ts) h.2; at = sym (ap begin_of h.2) };
          opens = h.3;
          within = k.2.within;
          above = omega (arith, l.open_depth (k.0 ++ h.0 ∷ []), l.count-append is_opening k.0 (h.0 ∷ []), l.count-append is_closing k.0 (h.0 ∷ []));
        }

    -- What is derived within the limit is read.
    pub only : (tree : A) → DerivesAs r i.ahead tree → depth i.ahead ≤ n → (o : Input) × (whole p n i ≡ Ok (tree, o))
    only tree d le = go (whole p n i) refl
      where
        go : (y : Outcome A) → whole p n i ≡ y → (o : Input) × (whole p n i ≡ Ok (tree, o))
        go (Ok z) is = (z.1, is ∙ ap (λ (w : A). done_at w z.1) (same_tree z.0 tree z.1 is d))
        go (Err (Unexpected, o)) is = absurd (ended_short o is tree d)
        go (Err (Nesting, o)) is =
            let k = too_deep_at o is in
            let back : i.ahead ≡ (k.front ++ k.token ∷ []) ++ k.stands.rest = k.stands.parts ∙ sym (append_assoc k.front (k.token ∷ []) k.stands.rest) in
            let more = l.depth_front (k.front ++ k.token ∷ []) k.stands.rest in
            let whole_depth = ap depth back in
            let above = k.above in
            absurd (omega arith)
        go (Err (Memory, o)) is = absurd (nested_err n i.ahead (whole p n i) Memory o ((whole_nested n).at i) is).2

    -- ---- as a call answers

    kept_at : (stop : ParseError) (o : Input) → whole p n i ≡ Err (stop, o) → o.ending ≡ i.ending
    kept_at stop o at = sym (ap ending_of at) ∙ (whole_keeps n).ending i

    module _ {k : Bool} {f : Test} (viable : (n : ℕ) → Viable k (r (suc n)) (p n) f) (free : f None ≡ true) where
      -- a text of the symbol begins with the tokens before the place where reading stops
      pub begins_before : (stop : ParseError) (o : Input) → whole p n i ≡ Err (stop, o) → BeginsBefore (DerivesAs r) i.ahead o.ahead
      begins_before stop o at = before_stop r p viable free n i begins stop o at

      all_begin : (last : List Token) → BeginsBefore (DerivesAs r) i.ahead last → last ≡ [] → BeginsSome (DerivesAs r) i.ahead
      all_begin last b none = subst (λ (ts : List Token). BeginsSome (DerivesAs r) ts) (sym (append-nil b.front) ∙ ap (λ (ts : List Token). b.front ++ ts) (sym none) ∙ sym b.parts) b.begins

      unexpected_says : (o : Input) (ts : List Token) → whole p n i ≡ Err (Unexpected, o) → o.ahead ≡ ts → o.ending ≡ i.ending → Says (DerivesAs r) i.ahead i.ending n (unexpected_at ts o.ending)
      unexpected_says o [] at left same_end = go o.ending same_end (all_begin o.ahead (begins_before Unexpected o at) left)
        where
          go : (z : Ending) → z ≡ i.ending → BeginsSome (DerivesAs r) i.ahead → Says (DerivesAs r) i.ahead i.ending n (ending_fault z)
          go (Ended offset) s b = (sym s, (λ tree d. ended_short o at tree d), b)
          go (NoTokenAt offset) s b = (sym s, b)
      unexpected_says o (c ∷ rest) at left same_end =
          let b = begins_before Unexpected o at in
          let parts : i.ahead ≡ b.front ++ c ∷ rest = b.parts ∙ ap (λ (ts : List Token). b.front ++ ts) left in
          record {
            front = b.front;
            token = c;
            stands = record { rest = rest; parts = parts; at = refl };
            begins_some = b.begins;
            begins_none = λ more tree d. stopped b.front c rest o parts at left more tree (subst (λ (ts : List Token). DerivesAs r ts tree) (append_assoc b.front (c ∷ []) more) d);
          }

      pub says : (stop : ParseError) (o : Input) → (stop ≢ Memory → whole p n i ≡ Err (stop, o)) → Says (DerivesAs r) i.ahead i.ending n (fault_of stop o)
      says Unexpected o at = let is = at (λ e. cc) in unexpected_says o o.ahead is refl (kept_at Unexpected o is)
      says Nesting o at = (too_deep_at o (at (λ e. cc)), may_nest r p viable free n i begins o (at (λ e. cc)))
      says Memory o at = tt

    -- If a tree is derived within the limit, a parser stops only if out of memory.
    pub only_memory : (stop : ParseError) (o : Input) (tree : A) → (stop ≢ Memory → whole p n i ≡ Err (stop, o)) → DerivesAs r i.ahead tree → depth i.ahead ≤ n → fault_of stop o ≡ faults.Memory
    only_memory Unexpected o tree at d le = let k = only tree d le in let e : stop_at Unexpected o ≡ done_at tree k.0 = sym (at (λ e. cc)) ∙ k.1 in absurd cc
    only_memory Nesting o tree at d le = let k = only tree d le in let e : stop_at Nesting o ≡ done_at tree k.0 = sym (at (λ e. cc)) ∙ k.1 in absurd cc
    only_memory Memory o tree at d le = refl
