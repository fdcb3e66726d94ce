-- A parser of lists looks at no token after the first that it does not take, and a higher limit changes nothing but an error `Nesting`.
use Rattle.std.proofs.Common.{◌≡◌, ℕ, zero, suc, ◌+◌, ◌≤◌, Bool, true, false, cond, List, [], ◌∷◌, length, None, Ok, Err, refl, ap, arith, inl, inr}
use Rattle.read_tokens.specs.declared.terminal.Terminal.{Terminal}
use Rattle.read_tokens.specs.Input.{Token, Input, next, next_of}
use Rattle.read_grammar.specs.declared.parse_error.ParseError.{ParseError}
use Rattle.read_grammar.specs.declared.parse_error.ParseError.TheVariants.{Unexpected, Nesting, Memory}
use Rattle.read_grammar.specs.Kinds.{next_is}
use Rattle.read_grammar.specs.Reading.{Outcome, Parser, and_then, many_within, many, some}
use Rattle.read_grammar.proofs.Steady.{Steady, Shorter, Fork, Alike, here, done, further, AlikeIn, Related, RelatedAt, passed, next_alike, choice, refused}

alike_length : {a : Fork} {ts us : List Token} → Alike a ts us → length ts + length a.s ≡ length us + length a.r
alike_length (here lt) = omega arith
alike_length (done e) = omega arith
alike_length (further h) = let k = alike_length h in omega arith

no_next : (ts : List Token) → length ts ≤ 0 → next_of ts ≡ None
no_next [] le = refl
no_next (t ∷ ts) le = absurd (omega arith)

module _ {A : Type 0} {p p' : Parser A} (begins : Terminal → Bool) (pp : Steady 1 p p') where
  many_shorter : (n : ℕ) (i : Input) → Shorter 0 (length i.ahead) (many_within begins p n i)
  unfolding many_within
  many_shorter zero i = omega arith
  many_shorter (suc n) i = go (next_is begins (next i)) (p i) (pp.shorter i) (many_shorter n)
    where
      last : (y : Outcome (List A)) (x : A) (m : ℕ) → Shorter 0 m y → m + 1 ≤ length i.ahead → Shorter 0 (length i.ahead) (and_then y (λ xs o. Ok (x ∷ xs, o)))
      last (Ok z) x m h lt = omega arith
      last (Err f) x m h lt = omega arith

      go : (t : Bool) (y : Outcome A) → Shorter 1 (length i.ahead) y → ((m : Input) → Shorter 0 (length m.ahead) (many_within begins p n m)) → Shorter 0 (length i.ahead) (cond t (and_then y (λ x m. and_then (many_within begins p n m) (λ xs o. Ok (x ∷ xs, o)))) (Ok ([], i)))
      go true (Ok z) h rest = last (many_within begins p n z.1) z.0 (length z.1.ahead) (rest z.1) h
      go true (Err f) h rest = h
      go false y h rest = omega arith

  cons_shorter : (y : Outcome (List A)) (x : A) (n : ℕ) → Shorter 0 n y → Shorter 0 n (and_then y (λ xs o. Ok (x ∷ xs, o)))
  cons_shorter (Ok z) x n h = h
  cons_shorter (Err f) x n h = h

  cons_stop : (a : Fork) (stop : ParseError) (o : Input) (x : A) (w : Outcome (List A)) → RelatedAt a stop o w → RelatedAt a stop o (and_then w (λ xs o. Ok (x ∷ xs, o)))
  cons_stop a Unexpected o x w (inl h) = inl h
  cons_stop a Unexpected o x w (inr h) = inr (h.0, ap (λ (y : Outcome (List A)). and_then y (λ xs o. Ok (x ∷ xs, o))) h.1, h.2)
  cons_stop a Nesting o x w h = tt
  cons_stop a Memory o x w h = tt

  cons_alike : (a : Fork) (x : A) (y w : Outcome (List A)) → Related a y w → Related a (and_then y (λ xs o. Ok (x ∷ xs, o))) (and_then w (λ xs o. Ok (x ∷ xs, o)))
  cons_alike a x (Ok z) w (inl h) = inl h
  cons_alike a x (Ok z) w (inr h) = inr (h.0, ap (λ (y : Outcome (List A)). and_then y (λ xs o. Ok (x ∷ xs, o))) h.1, h.2)
  cons_alike a x (Err f) w h = cons_stop a f.0 f.1 x w h

  first_stop : (a : Fork) (m : ℕ) (stop : ParseError) (o : Input) (w : Outcome A) → RelatedAt a stop o w → RelatedAt {A = List A} a stop o (and_then w (λ x o. and_then (many_within begins p' m o) (λ xs o. Ok (x ∷ xs, o))))
  first_stop a m Unexpected o w (inl h) = inl h
  first_stop a m Unexpected o w (inr h) = inr (h.0, ap (λ (y : Outcome A). and_then y (λ x o. and_then (many_within begins p' m o) (λ xs o. Ok (x ∷ xs, o)))) h.1, h.2)
  first_stop a m Nesting o w h = tt
  first_stop a m Memory o w h = tt

  many_alike : (n m : ℕ) (a : Fork) (i j : Input) → length i.ahead ≤ n → length j.ahead ≤ m → AlikeIn a i j → Related a (many_within begins p n i) (many_within begins p' m j)
  unfolding many_within
  many_alike zero zero a i j le lf h = inr (j, refl, h)
  many_alike zero (suc m) a i j le lf h = rw (← next_alike h.ahead, no_next i.ahead le) (inr (j, refl, h))
  many_alike (suc n) zero a i j le lf h = rw (next_alike h.ahead, no_next j.ahead lf) (inr (j, refl, h))
  many_alike (suc n) (suc m) a i j le lf h =
      rw (← next_alike h.ahead) (go (next_is begins (next i)) (p i) (p' j) (pp.shorter i) (pp.alike a i j h) (λ o o'. many_alike n m a o o'))
    where
      go : (t : Bool) (y w : Outcome A) → Shorter 1 (length i.ahead) y → Related a y w → ((o o' : Input) → length o.ahead ≤ n → length o'.ahead ≤ m → AlikeIn a o o' → Related a (many_within begins p n o) (many_within begins p' m o'))
          → Related a (cond t (and_then y (λ x o. and_then (many_within begins p n o) (λ xs o. Ok (x ∷ xs, o)))) (Ok ([], i))) (cond t (and_then w (λ x o. and_then (many_within begins p' m o) (λ xs o. Ok (x ∷ xs, o)))) (Ok ([], j)))
      go true (Ok z) w sh (inl k) rest = passed a (and_then (many_within begins p n z.1) (λ xs o. Ok (z.0 ∷ xs, o))) _ 0 (length z.1.ahead) (cons_shorter (many_within begins p n z.1) z.0 (length z.1.ahead) (many_shorter n z.1)) k
      go true (Ok z) w sh (inr k) rest =
          let before = alike_length h.ahead in let after = alike_length k.2.ahead in
          rw k.1 (cons_alike a z.0 (many_within begins p n z.1) (many_within begins p' m k.0) (rest z.1 k.0 (omega arith) (omega arith) k.2))
      go true (Err f) w sh k rest = first_stop a m f.0 f.1 w k
      go false y w sh k rest = inr (j, refl, h)

  pub several : Steady 0 (many begins p) (many begins p')
  unfolding many
  several = record {
    shorter = λ i. many_shorter (length i.ahead) i;
    alike = λ a i j h. many_alike (length i.ahead) (length j.ahead) a i j (omega arith) (omega arith) h;
  }

  pub one_or_more : Steady 0 (some begins p) (some begins p')
  unfolding some
  one_or_more = choice begins several (refused 0)
