-- What each step of the cursor, and each turn of a loop, does to what is read.
use Rattle.std.proofs.Common.{◌≡◌, ◌≢◌, ℕ, zero, suc, ◌<◌, ◌≤◌, Bool, true, false, cond, List, [], ◌∷◌, ◌++◌, length, None, Ok, Err, refl, sym, ap, subst, ◌∙◌, arith, append_assoc}
use Rattle.std.specs.Prelude.{map}
use Rattle.std.proofs.lemmas.List.{append-nil, map-append}
use Rattle.read_tokens.specs.declared.terminal.Terminal.{Terminal}
use Rattle.read_grammar.specs.declared.parse_error.ParseError.{ParseError}
use Rattle.read_grammar.specs.declared.parse_error.ParseError.TheVariants.{Unexpected, Memory}
use Rattle.read_tokens.specs.Input.{Token, Input, next, next_of}
use Rattle.read_grammar.specs.Kinds.{next_is}
use Rattle.read_grammar.specs.Reading.{Outcome, Parser, and_then, many_within, many, some}
use Rattle.read_grammar.proofs.Steady.{Steady, Shorter}
use Rattle.read_grammar.proofs.Parses.{takes}

-- ---- loops

-- what was read before, and what is still read
abbrev pub with_front : {A : Type 0} → List A → Outcome (List A) → Outcome (List A)
with_front front y = and_then y (λ xs o. Ok (front ++ xs, o))

module _ {A : Type 0} {q : Parser A} (begins : Terminal → Bool) (st : Steady 1 q q) where
  fuel : (n m : ℕ) (i : Input) → length i.ahead ≤ n → length i.ahead ≤ m → many_within begins q n i ≡ many_within begins q m i
  unfolding many_within
  fuel zero zero i le lf = refl
  fuel zero (suc m) i le lf = rw (no_next i.ahead le) refl
    where
      no_next : (ts : List Token) → length ts ≤ 0 → next_of ts ≡ None
      no_next [] le = refl
      no_next (t ∷ ts) le = absurd (omega arith)
  fuel (suc n) zero i le lf = rw (no_next i.ahead lf) refl
    where
      no_next : (ts : List Token) → length ts ≤ 0 → next_of ts ≡ None
      no_next [] le = refl
      no_next (t ∷ ts) le = absurd (omega arith)
  fuel (suc n) (suc m) i le lf = go (next_is begins (next i)) (q i) (st.shorter i) (λ o. fuel n m o)
    where
      go : (t : Bool) (y : Outcome A) → Shorter 1 (length i.ahead) y → ((o : Input) → length o.ahead ≤ n → length o.ahead ≤ m → many_within begins q n o ≡ many_within begins q m o)
          → cond t (and_then y (λ x o. and_then (many_within begins q n o) (λ xs o. Ok (x ∷ xs, o)))) (Ok ([], i)) ≡ cond t (and_then y (λ x o. and_then (many_within begins q m o) (λ xs o. Ok (x ∷ xs, o)))) (Ok ([], i))
      go true (Ok z) h rest = ap (λ (y : Outcome (List A)). and_then y (λ xs o. Ok (z.0 ∷ xs, o))) (rest z.1 (omega arith) (omega arith))
      go true (Err f) h rest = refl
      go false y h rest = refl

  -- one turn, from a list that is not empty
  unfold_many : (i : Input) → next_is begins (next i) ≡ true → many begins q i ≡ and_then (q i) (λ x o. and_then (many begins q o) (λ xs o. Ok (x ∷ xs, o)))
  unfolding many many_within
  unfold_many i h = go (length i.ahead) i.ahead refl refl (st.shorter i)
    where
      same : (n : ℕ) (y : Outcome A) → Shorter 1 (suc n) y → and_then y (λ x o. and_then (many_within begins q n o) (λ xs o. Ok (x ∷ xs, o))) ≡ and_then y (λ x o. and_then (many begins q o) (λ xs o. Ok (x ∷ xs, o)))
      same n (Ok z) h = ap (λ (y : Outcome (List A)). and_then y (λ xs o. Ok (z.0 ∷ xs, o))) (fuel n (length z.1.ahead) z.1 (omega arith) (omega arith))
      same n (Err f) h = refl

      go : (n : ℕ) (ts : List Token) → length i.ahead ≡ n → i.ahead ≡ ts → Shorter 1 n (q i) → many_within begins q n i ≡ and_then (q i) (λ x o. and_then (many begins q o) (λ xs o. Ok (x ∷ xs, o)))
      go n [] l e sh = let no : false ≡ true = rw e at h in absurd cc
      go zero (t ∷ ts) l e sh = let some = ap (λ (w : List Token). length w) e in absurd (omega (arith, some))
      go (suc n) (t ∷ ts) l e sh = rw h (same n (q i) sh)

  pub turn : (front : List A) (i o : Input) (x : A) (whole : Outcome (List A)) → with_front front (many begins q i) ≡ whole → next_is begins (next i) ≡ true → q i ≡ Ok (x, o) → with_front (front ++ x ∷ []) (many begins q o) ≡ whole
  turn front i o x whole e h is =
      let one : many begins q i ≡ and_then (many begins q o) (λ xs o. Ok (x ∷ xs, o)) = unfold_many i h ∙ ap (λ (y : Outcome A). and_then y (λ x o. and_then (many begins q o) (λ xs o. Ok (x ∷ xs, o)))) is in
      sym (regroup (many begins q o)) ∙ ap (with_front front) (sym one) ∙ e
    where
      regroup : (y : Outcome (List A)) → with_front front (and_then y (λ xs o. Ok (x ∷ xs, o))) ≡ with_front (front ++ x ∷ []) y
      regroup (Ok z) = ap (λ (xs : List A). Ok (xs, z.1)) (simp append_assoc)
      regroup (Err f) = refl

  pub turn_stops : (front : List A) (i : Input) (f : ParseError × Input) (whole : Outcome (List A)) → with_front front (many begins q i) ≡ whole → next_is begins (next i) ≡ true → q i ≡ Err f → whole ≡ Err f
  turn_stops front i f whole e h is =
      sym e ∙ ap (with_front front) (unfold_many i h ∙ ap (λ (y : Outcome A). and_then y (λ x o. and_then (many begins q o) (λ xs o. Ok (x ∷ xs, o)))) is)

  pub turn_stops_with : (front : List A) (i : Input) (e : ParseError) (o : Input) (whole : Outcome (List A)) → with_front front (many begins q i) ≡ whole → next_is begins (next i) ≡ true → (e ≢ Memory → q i ≡ Err (e, o)) → e ≢ Memory → whole ≡ Err (e, o)
  turn_stops_with front i e o whole w h is other = turn_stops front i (e, o) whole w h (is other)

  ends_by : (n : ℕ) (i : Input) → next_is begins (next i) ≡ false → many_within begins q n i ≡ Ok ([], i)
  unfolding many_within
  ends_by zero i h = refl
  ends_by (suc n) i h = rw h refl

  ends : (i : Input) → next_is begins (next i) ≡ false → many begins q i ≡ Ok ([], i)
  unfolding many
  ends i h = ends_by (length i.ahead) i h

  pub turns_end : (front : List A) (i : Input) (whole : Outcome (List A)) → with_front front (many begins q i) ≡ whole → next_is begins (next i) ≡ false → whole ≡ Ok (front, i)
  turns_end front i whole e h = sym e ∙ ap (with_front front) (ends i h) ∙ ap (λ (xs : List A). Ok (xs, i)) (append-nil front)

  pub turn_takes : (i o : Input) (x : A) → q i ≡ Ok (x, o) → length o.ahead < length i.ahead
  turn_takes i o x is = takes st i x o is

  pub some_starts : (i : Input) → next_is begins (next i) ≡ true → with_front [] (many begins q i) ≡ some begins q i
  unfolding some
  some_starts i h = rw h (empty_front (many begins q i))
    where
      empty_front : (y : Outcome (List A)) → with_front [] y ≡ y
      empty_front (Ok z) = refl
      empty_front (Err f) = refl

  pub some_not : (i : Input) → next_is begins (next i) ≡ false → some begins q i ≡ Err (Unexpected, i)
  unfolding some
  some_not i h = rw h refl

-- ---- loops of code, where the list in memory shows the trees by a view

module _ {X A : Type 0} {q : Parser A} (view : X → A) (begins : Terminal → Bool) (st : Steady 1 q q) where
  pub viewed_turn : (front : List X) (i o : Input) (x : X) (whole : Outcome (List A)) → with_front (map view front) (many begins q i) ≡ whole → next_is begins (next i) ≡ true → q i ≡ Ok (view x, o) → with_front (map view (front ++ x ∷ [])) (many begins q o) ≡ whole
  viewed_turn front i o x whole e h is =
      subst (λ (xs : List A). with_front xs (many begins q o) ≡ whole) (sym (map-append view front (x ∷ []))) (turn begins st (map view front) i o (view x) whole e h is)

  -- before the first turn, where any number may come
  pub viewed_start : (i : Input) → with_front (map view []) (many begins q i) ≡ many begins q i
  viewed_start i = empty_front (many begins q i)
    where
      empty_front : (y : Outcome (List A)) → with_front [] y ≡ y
      empty_front (Ok z) = refl
      empty_front (Err f) = refl
