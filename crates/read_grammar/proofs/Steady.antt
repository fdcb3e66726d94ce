-- A parser looks at no token after the first that it does not take, and a higher limit changes nothing but an error `Nesting`.
use Rattle.std.proofs.Common.{◌≡◌, ℕ, ◌+◌, ◌<◌, ◌≤◌, Bool, true, false, cond, List, [], ◌∷◌, length, Some, None, Ok, Err, refl, sym, ap, ◌∙◌, arith, inl, inr, ◌⊎◌}
use Rattle.read_tokens.specs.declared.terminal.Terminal.{Terminal}
use Rattle.graphql_names.specs.Placed.{Placed}
use Rattle.read_grammar.specs.declared.parse_error.ParseError.{ParseError}
use Rattle.read_grammar.specs.declared.parse_error.ParseError.TheVariants.{Unexpected, Nesting, Memory}
use Rattle.read_tokens.specs.Input.{Token, Input, next, next_of, past}
use Rattle.read_grammar.specs.Meaning.{Meaning, place_between, begin_of}
use Rattle.read_grammar.specs.Kinds.{next_is}
use Rattle.read_grammar.specs.Reading as read
use Rattle.read_grammar.proofs.Moves.{between_no}
use Rattle.read_grammar.specs.Reading.{Outcome, Parser, and_then, ◌⊙◌, ◌<&>◌, refuse, too_deep, take_from, take, when, try, placed, between}

-- Where two lists of tokens diverge: after the token b, where r and s follow, if fewer than `far` tokens are left there.
pub record Fork : Type 0 where
  pub far : ℕ
  pub b : Token
  pub r : List Token
  pub s : List Token

-- the same tokens up to there, or to the end
pub data Alike (f : Fork) : List Token → List Token → Type 0 where
  here : length f.r < f.far → Alike f (f.b ∷ f.r) (f.b ∷ f.s)
  done : length f.r ≡ length f.s → Alike f [] []
  further : {t : Token} {ts us : List Token} → Alike f ts us → Alike f (t ∷ ts) (t ∷ us)

pub record AlikeIn (f : Fork) (i j : Input) : Type 0 where
  pub last : i.last ≡ j.last
  pub ahead : Alike f i.ahead j.ahead

-- The number of tokens is less by k after a success, and no greater at a stop.
abbrev pub Shorter : {A : Type 0} → ℕ → ℕ → Outcome A → Type 0
Shorter k n (Ok z) = length z.1.ahead + k ≤ n
Shorter k n (Err f) = length f.1.ahead ≤ n

abbrev pub RelatedAt : {A : Type 0} → Fork → ParseError → Input → Outcome A → Type 0
RelatedAt a Unexpected o y = (length o.ahead < a.far) ⊎ ((j : Input) × (y ≡ Err (Unexpected, j)) × AlikeIn a o j)
RelatedAt a Nesting o y = Unit {0}
RelatedAt a Memory o y = Unit {0}

-- The first outcome is the second one, if it did not go past b, and is no `Nesting`.
abbrev pub Related : {A : Type 0} → Fork → Outcome A → Outcome A → Type 0
Related a (Ok z) y = (length z.1.ahead < a.far) ⊎ ((j : Input) × (y ≡ Ok (z.0, j)) × AlikeIn a z.1 j)
Related a (Err f) y = RelatedAt a f.0 f.1 y

pub record Steady {A : Type 0} (k : ℕ) (p q : Parser A) : Type 0 where
  pub shorter : (i : Input) → Shorter k (length i.ahead) (p i)
  pub alike : (a : Fork) (i j : Input) → AlikeIn a i j → Related a (p i) (q j)

shorter_more : {A : Type 0} (y : Outcome A) (k l a n : ℕ) → Shorter l a y → a + k ≤ n → Shorter (k + l) n y
shorter_more (Ok z) k l a n h lt = omega arith
shorter_more (Err f) k l a n h lt = omega arith

passed_at : {A : Type 0} (a : Fork) (stop : ParseError) (o : Input) (w : Outcome A) → length o.ahead < a.far → RelatedAt a stop o w
passed_at a Unexpected o w lt = inl lt
passed_at a Nesting o w lt = tt
passed_at a Memory o w lt = tt

pub passed : {A : Type 0} (a : Fork) (y w : Outcome A) (l n : ℕ) → Shorter l n y → n < a.far → Related a y w
passed a (Ok z) w l n h lt = inl (omega arith)
passed a (Err f) w l n h lt = passed_at a f.0 f.1 w (omega arith)

module _ {A B : Type 0} {k l : ℕ} {p p' : Parser A} {f f' : A → Parser B} (pp : Steady k p p') (ff : (x : A) → Steady l (f x) (f' x)) where
  then_shorter : (y : Outcome A) (n : ℕ) → Shorter k n y → Shorter (k + l) n (and_then y f)
  then_shorter (Ok z) n h = shorter_more (f z.0 z.1) k l (length z.1.ahead) n ((ff z.0).shorter z.1) h
  then_shorter (Err g) n h = h

  then_stop : (a : Fork) (stop : ParseError) (o : Input) (w : Outcome A) → RelatedAt a stop o w → RelatedAt a stop o (and_then w f')
  then_stop a Unexpected o w (inl h) = inl h
  then_stop a Unexpected o w (inr h) = inr (h.0, ap (λ (y : Outcome A). and_then y f') h.1, h.2)
  then_stop a Nesting o w h = tt
  then_stop a Memory o w h = tt

  then_alike : (a : Fork) (y w : Outcome A) → Related a y w → Related a (and_then y f) (and_then w f')
  then_alike a (Ok z) w (inl h) = passed a (f z.0 z.1) (and_then w f') l (length z.1.ahead) ((ff z.0).shorter z.1) h
  then_alike a (Ok z) w (inr h) = rw h.1 ((ff z.0).alike a z.1 h.0 h.2)
  then_alike a (Err g) w h = then_stop a g.0 g.1 w h

  pub bound : Steady (k + l) (λ i. and_then (p i) f) (λ i. and_then (p' i) f')
  bound = record {
    shorter = λ i. then_shorter (p i) (length i.ahead) (pp.shorter i);
    alike = λ a i j h. then_alike a (p i) (p' j) (pp.alike a i j h);
  }

pub given : {A : Type 0} (x : A) → Steady 0 (λ i. Ok (x, i)) (λ i. Ok (x, i))
given x = record { shorter = λ i. omega arith; alike = λ a i j h. inr (j, refl, h) }

pub counted : {A : Type 0} {k : ℕ} {p q : Parser A} (l : ℕ) → l ≤ k → Steady k p q → Steady l p q
counted {A} {k} {p} {q} l lt pp = record {
  shorter = λ i. fewer (p i) (length i.ahead) (pp.shorter i);
  alike = pp.alike;
}
  where
    fewer : (y : Outcome A) (n : ℕ) → Shorter k n y → Shorter l n y
    fewer (Ok z) n h = omega arith
    fewer (Err f) n h = h

pub seq : {A B : Type 0} {k l : ℕ} {p p' : Parser A} {q q' : Parser B} → Steady k p p' → Steady l q q' → Steady (k + l) (p ⊙ q) (p' ⊙ q')
seq {A} {B} {k} {l} pp qq = bound pp (λ x. counted l (omega arith) (bound qq (λ y. given (x, y))))

pub mapped : {A B : Type 0} {k : ℕ} {p p' : Parser A} (f : A → B) → Steady k p p' → Steady k (f <&> p) (f <&> p')
mapped {A} {B} {k} f pp = counted k (omega arith) (bound pp (λ x. given (f x)))

pub next_alike : {a : Fork} {ts us : List Token} → Alike a ts us → next_of ts ≡ next_of us
next_alike (here lt) = refl
next_alike (done e) = refl
next_alike (further h) = refl

pub choice : {A : Type 0} {k : ℕ} {p p' q q' : Parser A} (is : Terminal → Bool) → Steady k p p' → Steady k q q' → Steady k (when is p q) (when is p' q')
choice {A} {k} {p} {p'} {q} {q'} is pp qq = record {
  shorter = λ i. by_length (next_is is (next i)) i;
  alike = λ a i j h. rw (← next_alike h.ahead) (by_case (next_is is (next i)) a i j h);
}
  where
    by_length : (c : Bool) (i : Input) → Shorter k (length i.ahead) (cond c (p i) (q i))
    by_length true i = pp.shorter i
    by_length false i = qq.shorter i

    by_case : (c : Bool) (a : Fork) (i j : Input) → AlikeIn a i j → Related a (cond c (p i) (q i)) (cond c (p' j) (q' j))
    by_case true a i j h = pp.alike a i j h
    by_case false a i j h = qq.alike a i j h

pub refused : {A : Type 0} (k : ℕ) → Steady {A = A} k refuse refuse
refused k = record { shorter = λ i. omega arith; alike = λ a i j h. inr (j, refl, h) }

pub unless : {A : Type 0} {k : ℕ} {p p' : Parser A} (forbidden : Bool) → Steady k p p' → Steady k (read.unless forbidden p) (read.unless forbidden p')
unless {A} {k} true pp = refused k
unless false pp = pp

pub such_that : {A : Type 0} {k : ℕ} {p p' : Parser A} (passes : A → Bool) → Steady k p p' → Steady k (read.such_that passes p) (read.such_that passes p')
such_that {A} {k} passes pp = counted k (omega arith) (bound pp (λ x. by_test x (passes x)))
  where
    by_test : (x : A) (t : Bool) → Steady {A = A} 0 (λ o. cond t (Ok (x, o)) (Err (Unexpected, o))) (λ o. cond t (Ok (x, o)) (Err (Unexpected, o)))
    by_test x true = given x
    by_test x false = refused 0

-- what is too deep at a low limit may be anything at a higher one
pub deeper : {A : Type 0} (k : ℕ) (q : Parser A) → Steady k too_deep q
deeper k q = record { shorter = λ i. omega arith; alike = λ a i j h. tt }

take_length : (is : Terminal → Bool) (i : Input) (ts : List Token) → i.ahead ≡ ts → Shorter 1 (length ts) (take_from is i ts)
take_length is i [] e = let len = ap (λ (w : List Token). length w) e in omega (arith, len)
take_length is i (t ∷ ts) e = go (is t.kind)
  where
    go : (c : Bool) → Shorter {A = Token} 1 (length (t ∷ ts)) (cond c (Ok (t, past i t ts)) (Err (Unexpected, i)))
    go true = omega arith
    go false = let len = ap (λ (w : List Token). length w) e in omega (arith, len)

take_here : (c : Bool) (a : Fork) (i j : Input) → length a.r < a.far → AlikeIn a i j → Related {A = Token} a (cond c (Ok (a.b, past i a.b a.r)) (Err (Unexpected, i))) (cond c (Ok (a.b, past j a.b a.s)) (Err (Unexpected, j)))
take_here true a i j lt h = inl lt
take_here false a i j lt h = inr (j, refl, h)

take_further : (c : Bool) (a : Fork) (t : Token) (ts us : List Token) (i j : Input) → Alike a ts us → AlikeIn a i j → Related {A = Token} a (cond c (Ok (t, past i t ts)) (Err (Unexpected, i))) (cond c (Ok (t, past j t us)) (Err (Unexpected, j)))
take_further true a t ts us i j h al = inr (past j t us, refl, record { last = refl; ahead = h })
take_further false a t ts us i j h al = inr (j, refl, al)

take_alike : (is : Terminal → Bool) (a : Fork) (i j : Input) → AlikeIn a i j → {ts us : List Token} → Alike a ts us → Related a (take_from is i ts) (take_from is j us)
take_alike is a i j al (here lt) = take_here (is a.b.kind) a i j lt al
take_alike is a i j al (done e) = inr (j, refl, al)
take_alike is a i j al (further {t} {ts} {us} h) = take_further (is t.kind) a t ts us i j h al

pub token : (is : Terminal → Bool) → Steady 1 (take is) (take is)
unfolding take
token is = record {
  shorter = λ i. take_length is i i.ahead refl;
  alike = λ a i j h. take_alike is a i j h h.ahead;
}

pub mark : (is : Terminal → Bool) → Steady 1 (read.mark is) (read.mark is)
mark is = mapped (λ _. tt) (token is)

pub maybe : {A : Type 0} {k : ℕ} {p p' : Parser A} (is : Terminal → Bool) → Steady k p p' → Steady 0 (try is p) (try is p')
maybe is pp = choice is (counted 0 (omega arith) (mapped Some pp)) (given None)

begin_alike : {a : Fork} {ts us : List Token} → Alike a ts us → begin_of ts ≡ begin_of us
begin_alike (here lt) = refl
begin_alike (done e) = refl
begin_alike (further h) = refl

place_same : {P : Type 0} (m : Meaning P) (b b' l l' : ℕ) → b ≡ b' → l ≡ l' → m.place b l ≡ m.place b' l'
place_same m b b' l l' p q = ap (λ (w : ℕ). m.place w l) p ∙ ap (λ (w : ℕ). m.place b' w) q

place_alike : {P : Type 0} (m : Meaning P) {a : Fork} (i j o o' : Input) → Alike a i.ahead j.ahead → o.last ≡ o'.last → place_between m i o ≡ place_between m j o'
place_alike m i j o o' h l = place_same m (begin_of i.ahead) (begin_of j.ahead) o.last o'.last (begin_alike h) l

abbrev put : {P A : Type 0} → A → P → Placed P A
put x place = record { it = x; place = place }

abbrev done_at : {A : Type 0} → A → Input → Outcome A
done_at x o = Ok (x, o)

abbrev finish : {P A : Type 0} → Meaning P → Input → Outcome A → Outcome (Placed P A)
finish m i y = and_then y (λ x o. Ok (put x (place_between m i o), o))

pub located : {P A : Type 0} {k : ℕ} {p p' : Parser A} (m : Meaning P) → Steady k p p' → Steady k (placed m p) (placed m p')
located {P} {A} {k} {p} {p'} m pp = record {
  shorter = λ i. by_length (p i) i (pp.shorter i);
  alike = λ a i j h. by_case a i j h.ahead (p i) (p' j) (pp.alike a i j h);
}
  where
    by_length : (y : Outcome A) (i : Input) → Shorter k (length i.ahead) y → Shorter k (length i.ahead) (finish m i y)
    by_length (Ok z) i h = h
    by_length (Err f) i h = h

    by_stop : (a : Fork) (i j : Input) (stop : ParseError) (o : Input) (w : Outcome A) → RelatedAt a stop o w → RelatedAt a stop o (finish m j w)
    by_stop a i j Unexpected o w (inl h) = inl h
    by_stop a i j Unexpected o w (inr h) = inr (h.0, ap (finish m j) h.1, h.2)
    by_stop a i j Nesting o w h = tt
    by_stop a i j Memory o w h = tt

    by_case : (a : Fork) (i j : Input) → Alike a i.ahead j.ahead → (y w : Outcome A) → Related a y w → Related a (finish m i y) (finish m j w)
    by_case a i j al (Ok z) w (inl h) = inl h
    by_case a i j al (Ok z) w (inr h) =
        inr (h.0, ap (finish m j) h.1 ∙ ap (λ (w : P). done_at (put z.0 w) h.0) (sym (place_alike m i j z.1 h.0 al h.2.last)), h.2)
    by_case a i j al (Err f) w h = by_stop a i j f.0 f.1 w h

pub enclosed : {A : Type 0} {k : ℕ} {p p' : Parser A} (opening closing : Terminal → Bool) → Steady k p p' → Steady 1 (between opening p closing) (between opening p' closing)
enclosed {A} {k} opening closing pp = mapped (λ x. x.1.0) (counted 1 (omega arith) (seq (mark opening) (seq pp (mark closing))))

-- a bracket that is too deep at a low limit, and what begins with it at a higher one
pub too_low : {A : Type 0} (opening closing : Terminal → Bool) (q : Parser A) → Steady 1 (when opening too_deep refuse) (between opening q closing)
too_low {A} opening closing q = record {
  shorter = λ i. by_length (next_is opening (next i)) i;
  alike = λ a i j h. by_test (next_is opening (next i)) a i j refl h;
}
  where
    by_length : (t : Bool) (i : Input) → Shorter {A = A} 1 (length i.ahead) (cond t (too_deep i) (refuse i))
    by_length true i = omega arith
    by_length false i = omega arith

    by_test : (t : Bool) (a : Fork) (i j : Input) → next_is opening (next i) ≡ t → AlikeIn a i j → Related {A = A} a (cond t (too_deep i) (refuse i)) (between opening q closing j)
    by_test true a i j e h = tt
    by_test false a i j e h = inr (j, between_no opening closing q j (ap (next_is opening) (sym (next_alike h.ahead)) ∙ e), h)
