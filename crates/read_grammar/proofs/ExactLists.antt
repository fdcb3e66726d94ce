-- A parser of lists reads what its rule derives, where the rest goes on as it may.
use Rattle.std.proofs.Common.{◌≡◌, ℕ, zero, suc, ◌<◌, ◌≤◌, Bool, true, false, cond, List, [], ◌∷◌, length, None, Ok, refl, sym, ap, subst, ◌∙◌, arith, inl, inr, ◌⊎◌}
use Rattle.read_tokens.specs.declared.terminal.Terminal.{Terminal}
use Rattle.read_tokens.specs.Input.{Token, Input, next, next_of}
use Rattle.read_grammar.specs.Kinds.{next_is}
use Rattle.read_grammar.specs.Rules as rule
use Rattle.read_grammar.specs.Rules.{Rule}
use Rattle.read_grammar.specs.Reading.{Outcome, Parser, and_then, refuse, many_within, many, some}
use Rattle.read_grammar.proofs.Tests.{Test, either, subset, apart, from_subset, from_apart}
use Rattle.read_grammar.proofs.Exact.{Exact, ok_is, then_ok, true_or_false, either_left, either_right, either_in}

-- a parser takes at least one token
abbrev pub Takes : {A : Type 0} → Parser A → Type 0
Takes {A} p = (i : Input) (x : A) (o : Input) → p i ≡ Ok (x, o) → length o.ahead < length i.ahead

module _ {A : Type 0} {r : Rule A} {p : Parser A} {b m : Test} (begins : Terminal → Bool) (e : Test) (in_begins : subset b (next_is begins) ≡ true) (goes_on : subset (next_is begins) m ≡ true) (may_end : subset e m ≡ true) (ends : apart e (next_is begins) ≡ true) (takes : Takes p) (pr : Exact r p b m) where
  many_sound : (n : ℕ) (i : Input) (xs : List A) (o : Input) → many_within begins p n i ≡ Ok (xs, o) → rule.many r i xs o
  unfolding many_within
  many_sound zero i xs o at = subst (λ (w : List A × Input). rule.many r i w.0 w.1) (ok_is ([], i) (xs, o) at) refl
  many_sound (suc n) i xs o at = go (many_sound n) (next_is begins (next i)) at
    where
      go : ((m : Input) (ys : List A) (o : Input) → many_within begins p n m ≡ Ok (ys, o) → rule.many r m ys o) → (t : Bool) → cond t (and_then (p i) (λ x m. and_then (many_within begins p n m) (λ xs o. Ok (x ∷ xs, o)))) (Ok ([], i)) ≡ Ok (xs, o) → rule.many r i xs o
      go rest true at =
          let h = then_ok (p i) (λ x m. and_then (many_within begins p n m) (λ xs o. Ok (x ∷ xs, o))) (xs, o) at in
          let k = then_ok (many_within begins p n h.1) (λ xs o. Ok (h.0 ∷ xs, o)) (xs, o) h.3 in
          subst (λ (w : List A × Input). rule.many r i w.0 w.1) (ok_is (h.0 ∷ k.0, k.1) (xs, o) k.3) (h.1, pr.sound i h.0 h.1 h.2, rest h.1 k.0 k.1 k.2)
      go rest false at = subst (λ (w : List A × Input). rule.many r i w.0 w.1) (ok_is ([], i) (xs, o) at) refl

  many_first : (i : Input) (xs : List A) (o : Input) → rule.many r i xs o → e (next o) ≡ true → either (next_is begins) e (next i) ≡ true
  many_first i [] o h at = either_right (next_is begins (next i)) _ (subst (λ (w : Input). e (next w) ≡ true) h at)
  many_first i (x ∷ xs) o h at =
      either_left _ _ (from_subset b (next_is begins) in_begins (next i) (pr.first i x h.0 h.1 (either_in (next_is begins) e m goes_on may_end (next h.0) (many_first h.0 xs o h.2 at))))

  many_complete : (n : ℕ) (i : Input) (xs : List A) (o : Input) → length i.ahead ≤ n → rule.many r i xs o → e (next o) ≡ true → many_within begins p n i ≡ Ok (xs, o)
  unfolding many_within
  many_complete zero i [] o le h at = ap (λ (w : Input). Ok ([], w)) (sym h)
  many_complete (suc n) i [] o le h at = rw (from_apart e (next_is begins) ends (next i) (subst (λ (w : Input). e (next w) ≡ true) h at)) (ap (λ (w : Input). Ok ([], w)) (sym h))
  many_complete zero i (x ∷ xs) o le h at =
      let mid = either_in (next_is begins) e m goes_on may_end (next h.0) (many_first h.0 xs o h.2 at) in
      let lt = takes i x h.0 (pr.complete i x h.0 h.1 mid) in absurd (omega arith)
  many_complete (suc n) i (x ∷ xs) o le h at =
      let mid = either_in (next_is begins) e m goes_on may_end (next h.0) (many_first h.0 xs o h.2 at) in
      let is = pr.complete i x h.0 h.1 mid in
      let lt = takes i x h.0 is in
      rw (from_subset b (next_is begins) in_begins (next i) (pr.first i x h.0 h.1 mid))
      (ap (λ (y : Outcome A). and_then y (λ x m. and_then (many_within begins p n m) (λ xs o. Ok (x ∷ xs, o)))) is
      ∙ ap (λ (y : Outcome (List A)). and_then y (λ xs o. Ok (x ∷ xs, o))) (many_complete n h.0 xs o (omega arith) h.2 at))

  pub several : Exact (rule.many r) (many begins p) (either (next_is begins) e) e
  unfolding many
  several = record {
    sound = λ i xs o at. many_sound (length i.ahead) i xs o at;
    complete = λ i xs o h at. many_complete (length i.ahead) i xs o (omega arith) h at;
    first = many_first;
  }

  none_left : (ts : List Token) → length ts ≤ 0 → next_of ts ≡ None
  none_left [] le = refl
  none_left (t ∷ ts) le = absurd (omega arith)

  some_sound : (n : ℕ) (i : Input) (xs : List A) (o : Input) → length i.ahead ≤ n → next_is begins (next i) ≡ true → many_within begins p n i ≡ Ok (xs, o) → rule.some r i xs o
  unfolding many_within
  some_sound zero i xs o le starts at = let never : false ≡ true = rw (none_left i.ahead le) at starts in absurd cc
  some_sound (suc n) i xs o le starts at =
      let h = then_ok (p i) (λ x m. and_then (many_within begins p n m) (λ xs o. Ok (x ∷ xs, o))) (xs, o) (rw starts at at) in
      let k = then_ok (many_within begins p n h.1) (λ xs o. Ok (h.0 ∷ xs, o)) (xs, o) h.3 in
      subst (λ (w : List A × Input). rule.some r i w.0 w.1) (ok_is (h.0 ∷ k.0, k.1) (xs, o) k.3) (h.1, pr.sound i h.0 h.1 h.2, many_sound n h.1 k.0 k.1 k.2)

  pub one_or_more : Exact (rule.some r) (some begins p) b e
  unfolding some many
  one_or_more = record {
    sound = λ i xs o at. by_test i xs o (true_or_false (next_is begins (next i))) at;
    complete = λ i xs o h at. some_complete i xs o h at;
    first = λ i xs o h at. some_first i xs o h at;
  }
    where
      by_test : (i : Input) (xs : List A) (o : Input) → ((next_is begins (next i) ≡ true) ⊎ (next_is begins (next i) ≡ false)) → some begins p i ≡ Ok (xs, o) → rule.some r i xs o
      by_test i xs o (inl starts) at = some_sound (length i.ahead) i xs o (omega arith) starts (rw starts at at)
      by_test i xs o (inr not) at = let never : refuse {A = List A} i ≡ Ok (xs, o) = rw not at at in absurd cc

      some_first : (i : Input) (xs : List A) (o : Input) → rule.some r i xs o → e (next o) ≡ true → b (next i) ≡ true
      some_first i [] o h at = absurd h
      some_first i (x ∷ xs) o h at = pr.first i x h.0 h.1 (either_in (next_is begins) e m goes_on may_end (next h.0) (many_first h.0 xs o h.2 at))

      some_complete : (i : Input) (xs : List A) (o : Input) → rule.some r i xs o → e (next o) ≡ true → some begins p i ≡ Ok (xs, o)
      some_complete i [] o h at = absurd h
      some_complete i (x ∷ xs) o h at =
          rw (from_subset b (next_is begins) in_begins (next i) (some_first i (x ∷ xs) o h at)) (many_complete (length i.ahead) i (x ∷ xs) o (omega arith) h at)
