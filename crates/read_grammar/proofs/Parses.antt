-- A parser at two limits reads a rule exactly, steadily, and within its limit: the three properties at once, for each way to put rules together.
use Rattle.std.proofs.Common.{◌≡◌, ℕ, suc, ◌+◌, ◌≤◌, Bool, true, ◌∷◌, length, Ok, Err, ap, arith}
use Rattle.read_tokens.specs.declared.terminal.Terminal.{Terminal}
use Rattle.read_tokens.specs.Input.{Input}
use Rattle.read_grammar.specs.Meaning.{Meaning}
use Rattle.read_grammar.specs.Kinds.{next_is}
use Rattle.read_grammar.specs.Depth.{is_opening, is_closing}
use Rattle.read_grammar.specs.Rules as rule
use Rattle.read_grammar.specs.Rules.{Rule, one, ◌·◌, ◌<$>◌, ◌∣◌, nothing, optional, optional_unless}
use Rattle.read_grammar.specs.Reading as read
use Rattle.read_grammar.specs.Reading.{Outcome, Parser, ◌⊙◌, ◌<&>◌, refuse, too_deep, take, when, try}
use Rattle.read_grammar.proofs.Tests.{Test, any, either, subset, apart, same_test, all_any}
use Rattle.read_grammar.proofs.Exact as ex
use Rattle.read_grammar.proofs.Exact.{Exact}
use Rattle.read_grammar.proofs.ExactLists as exl
use Rattle.read_grammar.proofs.ExactLists.{Takes}
use Rattle.read_grammar.proofs.Steady as st
use Rattle.read_grammar.proofs.Steady.{Steady, Shorter}
use Rattle.read_grammar.proofs.SteadyLists as stl
use Rattle.read_grammar.proofs.Keeps as ke
use Rattle.read_grammar.proofs.Keeps.{Keeps}
use Rattle.read_grammar.proofs.Nests as ne
use Rattle.read_grammar.proofs.Nests.{Nested, bracket}

taken : {A : Type 0} (y : Outcome A) (x : A) (o : Input) (k n : ℕ) → Shorter k n y → y ≡ Ok (x, o) → length o.ahead + k ≤ n
taken (Ok z) x o k n h at = let same = ex.ok_is z (x, o) at in let len = ap (λ (w : _ × Input). length w.1.ahead) same in omega (arith, len)
taken (Err f) x o k n h at = absurd cc

pub takes : {A : Type 0} {q q' : Parser A} → Steady 1 q q' → Takes q
takes {A} {q} st i x o at = let h = taken (q i) x o 1 (length i.ahead) (st.shorter i) at in omega arith

-- p at the limit n reads r, of which b begins and e may follow; q is p at the same or a higher limit; an Ok takes at least k tokens
pub record Parses {A : Type 0} (k n : ℕ) (r : Rule A) (p q : Parser A) (b e : Test) : Type 0 where
  pub exact : Exact r p b e
  pub steady : Steady k p q
  pub nested : Nested n p
  pub keeps : Keeps p

pub token : {n : ℕ} (is : Terminal → Bool) → apart (next_is is) bracket ≡ true → Parses 1 n (one is) (take is) (take is) (next_is is) any
token {n} is plain = record { exact = ex.token is; steady = st.token is; nested = ne.token n is plain; keeps = ke.token is }

pub mapped : {A B : Type 0} {k n : ℕ} {r : Rule A} {p q : Parser A} {b e : Test} (f : A → B) → Parses k n r p q b e → Parses k n (f <$> r) (f <&> p) (f <&> q) b e
mapped f h = record { exact = ex.mapped f h.exact; steady = st.mapped f h.steady; nested = ne.mapped f h.nested; keeps = ke.mapped f h.keeps }

pub mark : {n : ℕ} (is : Terminal → Bool) → apart (next_is is) bracket ≡ true → Parses 1 n (rule.mark is) (read.mark is) (read.mark is) (next_is is) any
mark is plain = mapped (λ _. tt) (token is plain)

pub weaker : {A : Type 0} {k n : ℕ} {r : Rule A} {p q : Parser A} {b e : Test} (b' e' : Test) → subset b b' ≡ true → subset e' e ≡ true → Parses k n r p q b e → Parses k n r p q b' e'
weaker b' e' more fewer h = record { exact = ex.weaker b' e' more fewer h.exact; steady = h.steady; nested = h.nested; keeps = h.keeps }

-- at least no token
pub any_count : {A : Type 0} {k n : ℕ} {r : Rule A} {p q : Parser A} {b e : Test} → Parses k n r p q b e → Parses 0 n r p q b e
any_count h = record { exact = h.exact; steady = st.counted 0 (omega arith) h.steady; nested = h.nested; keeps = h.keeps }

ending_in : {A : Type 0} {r : Rule A} {p : Parser A} {b m : Test} (m' : Test) → subset m' m ≡ true → Exact r p b m → Exact r p b m'
ending_in {A} {r} {p} {b} m' fewer h = ex.weaker b m' (same_test b) fewer h

-- one after the other, where the first takes a token
pub seq : {A B : Type 0} {l n : ℕ} {r : Rule A} {s : Rule B} {p p' : Parser A} {q q' : Parser B} {b m m' e : Test} → subset m' m ≡ true → Parses 1 n r p p' b m → Parses l n s q q' m' e → Parses 1 n (r · s) (p ⊙ q) (p' ⊙ q') b e
seq {A} {B} {l} {n} {r} {s} {p} {p'} {q} {q'} {b} {m} {m'} fewer h k = record {
  exact = ex.seq (ending_in m' fewer h.exact) k.exact;
  steady = st.counted 1 (omega arith) (st.seq h.steady k.steady);
  nested = ne.seq h.nested k.nested;
  keeps = ke.seq h.keeps k.keeps;
}

-- one after the other, where the first may take none
pub lead : {A B : Type 0} {l n : ℕ} {r : Rule A} {s : Rule B} {p p' : Parser A} {q q' : Parser B} {b m m' e : Test} → subset m' m ≡ true → Parses 0 n r p p' b m → Parses l n s q q' m' e → Parses l n (r · s) (p ⊙ q) (p' ⊙ q') b e
lead {A} {B} {l} {n} {r} {s} {p} {p'} {q} {q'} {b} {m} {m'} fewer h k = record {
  exact = ex.seq (ending_in m' fewer h.exact) k.exact;
  steady = st.counted l (omega arith) (st.seq h.steady k.steady);
  nested = ne.seq h.nested k.nested;
  keeps = ke.seq h.keeps k.keeps;
}

-- the next token tells which
pub alternative : {A : Type 0} {k n : ℕ} {r s : Rule A} {p p' q q' : Parser A} {b c e : Test} (is : Terminal → Bool) → subset b (next_is is) ≡ true → apart c (next_is is) ≡ true → Parses k n r p p' b e → Parses k n s q q' c e → Parses k n (r ∣ s) (when is p q) (when is p' q') (either (next_is is) c) e
alternative is in_is not_is h k = record {
  exact = ex.choice is in_is not_is h.exact k.exact;
  steady = st.choice is h.steady k.steady;
  nested = ne.choice is h.nested k.nested;
  keeps = ke.choice is h.keeps k.keeps;
}

-- the last of several
pub only : {A : Type 0} {k n : ℕ} {r : Rule A} {p q : Parser A} {b e : Test} (is : Terminal → Bool) → subset b (next_is is) ≡ true → Parses k n r p q b e → Parses k n r (when is p refuse) (when is q refuse) b e
only {A} {k} {n} is in_is h = record { exact = ex.only is in_is h.exact; steady = st.choice is h.steady (st.refused k); nested = ne.choice is h.nested (ne.refused n); keeps = ke.choice is h.keeps ke.refused }

pub maybe : {A : Type 0} {k n : ℕ} {r : Rule A} {p q : Parser A} {b e : Test} (is : Terminal → Bool) (e' : Test) → subset b (next_is is) ≡ true → subset e' e ≡ true → apart e' (next_is is) ≡ true → Parses k n r p q b e → Parses 0 n (optional r) (try is p) (try is q) (either (next_is is) e') e'
maybe is e' in_is fewer not_is h = record { exact = ex.maybe is e' in_is fewer not_is h.exact; steady = st.maybe is h.steady; nested = ne.maybe is h.nested; keeps = ke.maybe is h.keeps }

pub maybe_unless : {A : Type 0} {k n : ℕ} {r : Rule A} {p q : Parser A} {b e : Test} (is : Terminal → Bool) (e' : Test) → subset b (next_is is) ≡ true → subset e' e ≡ true → Parses k n r p q b e → Parses 0 n (optional_unless is r) (try is p) (try is q) (either (next_is is) e') e'
maybe_unless is e' in_is fewer h = record { exact = ex.maybe_unless is e' in_is fewer h.exact; steady = st.maybe is h.steady; nested = ne.maybe is h.nested; keeps = ke.maybe is h.keeps }

pub unless : {A : Type 0} {k n : ℕ} {r : Rule A} {p q : Parser A} {b e : Test} (forbidden : Bool) → Parses k n r p q b e → Parses k n (rule.unless forbidden r) (read.unless forbidden p) (read.unless forbidden q) b e
unless forbidden h = record { exact = ex.unless forbidden h.exact; steady = st.unless forbidden h.steady; nested = ne.unless forbidden h.nested; keeps = ke.unless forbidden h.keeps }

pub such_that : {A : Type 0} {k n : ℕ} {r : Rule A} {p q : Parser A} {b e : Test} (passes : A → Bool) → Parses k n r p q b e → Parses k n (rule.such_that passes r) (read.such_that passes p) (read.such_that passes q) b e
such_that passes h = record { exact = ex.such_that passes h.exact; steady = st.such_that passes h.steady; nested = ne.such_that passes h.nested; keeps = ke.such_that passes h.keeps }

pub located : {P A : Type 0} {k n : ℕ} {r : Rule A} {p q : Parser A} {b e : Test} (m : Meaning P) → Parses k n r p q b e → Parses k n (rule.placed m r) (read.placed m p) (read.placed m q) b e
located m h = record { exact = ex.located m h.exact; steady = st.located m h.steady; nested = ne.located m h.nested; keeps = ke.located m h.keeps }

module _ {A : Type 0} {n : ℕ} {r : Rule A} {p q : Parser A} {b m : Test} (begins : Terminal → Bool) (e : Test) (in_begins : subset b (next_is begins) ≡ true) (goes_on : subset (next_is begins) m ≡ true) (may_end : subset e m ≡ true) (ends : apart e (next_is begins) ≡ true) (h : Parses 1 n r p q b m) where
  pub several : Parses 0 n (rule.many r) (read.many begins p) (read.many begins q) (either (next_is begins) e) e
  several = record {
    exact = exl.several begins e in_begins goes_on may_end ends (takes h.steady) h.exact;
    steady = stl.several begins h.steady;
    nested = ne.several begins h.nested;
    keeps = ke.several begins h.keeps;
  }

  pub one_or_more : Parses 0 n (rule.some r) (read.some begins p) (read.some begins q) b e
  one_or_more = record {
    exact = exl.one_or_more begins e in_begins goes_on may_end ends (takes h.steady) h.exact;
    steady = stl.one_or_more begins h.steady;
    nested = ne.one_or_more begins h.nested;
    keeps = ke.one_or_more begins h.keeps;
  }

-- none or one, and the next rule
pub opt : {A B : Type 0} {k l n : ℕ} {r : Rule A} {s : Rule B} {p p' : Parser A} {q q' : Parser B} {b c m e : Test} (is : Terminal → Bool) → subset b (next_is is) ≡ true → subset c m ≡ true → apart c (next_is is) ≡ true → Parses k n r p p' b m → Parses l n s q q' c e → Parses l n (optional r · s) (try is p ⊙ q) (try is p' ⊙ q') (either (next_is is) c) e
opt {c} is in_is fewer not_is h g = lead (same_test c) (maybe is c in_is fewer not_is h) g

-- one or more with marks between
pub separated : {A : Type 0} {n : ℕ} {r : Rule A} {p q : Parser A} {b m : Test} (is : Terminal → Bool) (e : Test) → apart (next_is is) bracket ≡ true → apart b (next_is is) ≡ true → subset (next_is is) m ≡ true → subset e m ≡ true → subset (either (next_is is) e) m ≡ true → apart e (next_is is) ≡ true → Parses 1 n r p q b m → Parses 1 n (rule.separated is r) (read.separated is p) (read.separated is q) (either (next_is is) b) e
separated {A} {n} {r} {p} {q} {b} {m} is e plain not_is goes_on may_end either_may ends h =
    mapped (λ x. x.1.0 ∷ x.1.1)
    (opt is (same_test (next_is is)) (all_any b) not_is (mark is plain)
    (seq either_may h (several is e (same_test (next_is is)) goes_on may_end ends (mapped (λ x. x.1) (seq (all_any b) (mark is plain) h)))))

-- between brackets
pub enclosed : {A : Type 0} {k n : ℕ} {r : Rule A} {p q : Parser A} {b e : Test} (opening closing : Terminal → Bool) → subset (next_is closing) e ≡ true → subset (next_is opening) (next_is is_opening) ≡ true → subset (next_is closing) (next_is is_closing) ≡ true → Parses k n r p q b e → Parses 1 (suc n) (rule.between opening r closing) (read.between opening p closing) (read.between opening q closing) (next_is opening) any
enclosed opening closing ends opens closes h = record {
  exact = ex.enclosed opening closing ends h.exact;
  steady = st.enclosed opening closing h.steady;
  nested = ne.enclosed opening closing opens closes h.nested;
  keeps = ke.enclosed opening closing h.keeps;
}

-- brackets where none may open, and at the higher limit where none may, either, or one may
pub none_deep : {A : Type 0} (opening : Terminal → Bool) → subset (next_is opening) (next_is is_opening) ≡ true → Parses {A = A} 1 0 nothing (when opening too_deep refuse) (when opening too_deep refuse) (next_is opening) any
none_deep opening opens = record {
  exact = ex.only opening (same_test (next_is opening)) (ex.never (next_is opening) any);
  steady = st.choice opening (st.deeper 1 _) (st.refused 1);
  nested = ne.never_deep opening opens;
  keeps = ke.choice opening ke.deep ke.refused;
}

pub one_deep : {A : Type 0} (opening closing : Terminal → Bool) (q : Parser A) → subset (next_is opening) (next_is is_opening) ≡ true → Parses {A = A} 1 0 nothing (when opening too_deep refuse) (read.between opening q closing) (next_is opening) any
one_deep opening closing q opens = record {
  exact = ex.only opening (same_test (next_is opening)) (ex.never (next_is opening) any);
  steady = st.too_low opening closing q;
  nested = ne.never_deep opening opens;
  keeps = ke.choice opening ke.deep ke.refused;
}

-- another rule for the same
pub restated : {A : Type 0} {k n : ℕ} {r : Rule A} {p q : Parser A} {b e : Test} (s : Rule A) → ((i : Input) (x : A) (o : Input) → r i x o → s i x o) → ((i : Input) (x : A) (o : Input) → s i x o → r i x o) → Parses k n r p q b e → Parses k n s p q b e
restated s to from h = record { exact = ex.restated s to from h.exact; steady = h.steady; nested = h.nested; keeps = h.keeps }
