-- A parser reads what a rule derives, where the rest goes on as it may.
use Rattle.std.proofs.Common.{◌≡◌, Bool, true, false, cond, List, [], ◌∷◌, Option, Some, None, Ok, Err, refl, sym, ap, subst, ◌∙◌, inl, inr, ◌⊎◌}
use Rattle.read_tokens.specs.declared.terminal.Terminal.{Terminal}
use Rattle.graphql_names.specs.Placed.{Placed}
use Rattle.read_grammar.specs.declared.parse_error.ParseError.TheVariants.{Unexpected}
use Rattle.read_tokens.specs.Input.{Token, Input, next, past}
use Rattle.read_grammar.specs.Meaning.{Meaning, place_between}
use Rattle.read_grammar.specs.Kinds.{next_is}
use Rattle.read_grammar.specs.Rules as rule
use Rattle.read_grammar.specs.Rules.{Rule, one, ◌·◌, ◌<$>◌, ◌∣◌, nothing, optional, optional_unless, lacks}
use Rattle.read_grammar.specs.Reading as read
use Rattle.read_grammar.specs.Reading.{checked, Outcome, Parser, and_then, pure, ◌⊙◌, ◌<&>◌, refuse, too_deep, take_from, take, when, try, placed, between}
use Rattle.read_grammar.proofs.Tests.{Test, any, either, subset, apart, from_subset, from_apart, same_test, all_any}

pub record Exact {A : Type 0} (r : Rule A) (p : Parser A) (begins ends : Test) : Type 0 where
  pub sound : (i : Input) (x : A) (o : Input) → p i ≡ Ok (x, o) → r i x o
  pub complete : (i : Input) (x : A) (o : Input) → r i x o → ends (next o) ≡ true → p i ≡ Ok (x, o)
  pub first : (i : Input) (x : A) (o : Input) → r i x o → ends (next o) ≡ true → begins (next i) ≡ true

abbrev done : {A : Type 0} → A × Input → Outcome A
done z = Ok z

pub ok_is : {A : Type 0} (y z : A × Input) → done y ≡ done z → y ≡ z
ok_is y z e = cc

pub then_ok : {A B : Type 0} (y : Outcome A) (f : A → Parser B) (z : B × Input) → and_then y f ≡ Ok z → (x : A) × (m : Input) × (y ≡ Ok (x, m)) × (f x m ≡ Ok z)
then_ok (Ok p) f z e = (p.0, p.1, refl, e)
then_ok (Err s) f z e = absurd cc

pub seq : {A B : Type 0} {r : Rule A} {s : Rule B} {p : Parser A} {q : Parser B} {b m e : Test} → Exact r p b m → Exact s q m e → Exact (r · s) (p ⊙ q) b e
seq {A} {B} {r} {s} {p} {q} {b} {m} {e} pr qs = record {
  sound = λ i z o is.
      let h = then_ok (p i) (λ x m. and_then (q m) (λ y o. Ok ((x, y), o))) (z, o) is in
      let k = then_ok (q h.1) (λ y o. Ok ((h.0, y), o)) (z, o) h.3 in
      subst (λ (w : (A × B) × Input). (r · s) i w.0 w.1) (ok_is ((h.0, k.0), k.1) (z, o) k.3) (h.1, pr.sound i h.0 h.1 h.2, qs.sound h.1 k.0 k.1 k.2);
  complete = λ i z o h at.
      ap (λ (y : Outcome A). and_then y (λ x m. and_then (q m) (λ y o. Ok ((x, y), o)))) (pr.complete i z.0 h.0 h.1 (qs.first h.0 z.1 o h.2 at))
      ∙ ap (λ (y : Outcome B). and_then y (λ y o. Ok ((z.0, y), o))) (qs.complete h.0 z.1 o h.2 at);
  first = λ i z o h at. pr.first i z.0 h.0 h.1 (qs.first h.0 z.1 o h.2 at);
}

pub mapped : {A B : Type 0} {r : Rule A} {p : Parser A} {b e : Test} (f : A → B) → Exact r p b e → Exact (f <$> r) (f <&> p) b e
mapped {A} {B} {r} {p} {b} {e} f pr = record {
  sound = λ i z o is.
      let h = then_ok (p i) (λ x o. Ok (f x, o)) (z, o) is in
      subst (λ (w : B × Input). (f <$> r) i w.0 w.1) (ok_is (f h.0, h.1) (z, o) h.3) (h.0, pr.sound i h.0 h.1 h.2, refl);
  complete = λ i z o h at. ap (λ (y : Outcome A). and_then y (λ x o. Ok (f x, o))) (pr.complete i h.0 o h.1 at) ∙ ap (λ (w : B). Ok (w, o)) (sym h.2);
  first = λ i z o h at. pr.first i h.0 o h.1 at;
}

take_sound : (is : Terminal → Bool) (i : Input) (ts : List Token) (t : Token) (o : Input) → take_from is i ts ≡ Ok (t, o) → (is t.kind ≡ true) × ((us : List Token) × (ts ≡ t ∷ us) × (o ≡ past i t us))
take_sound is i [] t o e = absurd cc
take_sound is i (u ∷ us) t o e = go (is u.kind) refl e
  where
    go : (b : Bool) → is u.kind ≡ b → cond b (done (u, past i u us)) (Err (Unexpected, i)) ≡ Ok (t, o) → (is t.kind ≡ true) × ((vs : List Token) × (u ∷ us ≡ t ∷ vs) × (o ≡ past i t vs))
    go true h e = subst (λ (w : Token × Input). (is w.0.kind ≡ true) × ((vs : List Token) × (u ∷ us ≡ w.0 ∷ vs) × (w.1 ≡ past i w.0 vs))) (ok_is (u, past i u us) (t, o) e) (h, (us, refl, refl))
    go false h e = absurd cc

pub token : (is : Terminal → Bool) → Exact (one is) (take is) (next_is is) any
unfolding take
token is = record {
  sound = λ i t o e. take_sound is i i.ahead t o e;
  complete = λ i t o h at. rw h.1.1 (rw h.0 (ap (λ (w : Input). done (t, w)) (sym h.1.2)));
  first = λ i t o h at. rw h.1.1 h.0;
}

pub mark : (is : Terminal → Bool) → Exact (rule.mark is) (read.mark is) (next_is is) any
mark is = mapped (λ _. tt) (token is)

pub weaker : {A : Type 0} {r : Rule A} {p : Parser A} {b e : Test} (b' e' : Test) → subset b b' ≡ true → subset e' e ≡ true → Exact r p b e → Exact r p b' e'
weaker {A} {r} {p} {b} {e} b' e' more fewer pr = record {
  sound = pr.sound;
  complete = λ i x o h at. pr.complete i x o h (from_subset e' e fewer (next o) at);
  first = λ i x o h at. from_subset b b' more (next i) (pr.first i x o h (from_subset e' e fewer (next o) at));
}

pub true_or_false : (b : Bool) → (b ≡ true) ⊎ (b ≡ false)
true_or_false true = inl refl
true_or_false false = inr refl

pub either_left : (a b : Bool) → a ≡ true → cond a true b ≡ true
either_left true b e = refl
either_left false b e = absurd cc

pub either_right : (a b : Bool) → b ≡ true → cond a true b ≡ true
either_right true b e = refl
either_right false b e = e

-- the next token tells which
pub choice : {A : Type 0} {r s : Rule A} {p q : Parser A} {b c e : Test} (is : Terminal → Bool) → subset b (next_is is) ≡ true → apart c (next_is is) ≡ true → Exact r p b e → Exact s q c e → Exact (r ∣ s) (when is p q) (either (next_is is) c) e
choice {A} {r} {s} {p} {q} {b} {c} {e} is in_is not_is pr qs = record {
  sound = λ i x o at. which i x o (next_is is (next i)) at;
  complete = λ i x o h at. found i x o at h;
  first = λ i x o h at. begins i x o at h;
}
  where
    which : (i : Input) (x : A) (o : Input) (t : Bool) → cond t (p i) (q i) ≡ Ok (x, o) → (r ∣ s) i x o
    which i x o true at = inl (pr.sound i x o at)
    which i x o false at = inr (qs.sound i x o at)

    found : (i : Input) (x : A) (o : Input) → e (next o) ≡ true → (r ∣ s) i x o → when is p q i ≡ Ok (x, o)
    found i x o at (inl h) = rw (from_subset b (next_is is) in_is (next i) (pr.first i x o h at)) (pr.complete i x o h at)
    found i x o at (inr h) = rw (from_apart c (next_is is) not_is (next i) (qs.first i x o h at)) (qs.complete i x o h at)

    begins : (i : Input) (x : A) (o : Input) → e (next o) ≡ true → (r ∣ s) i x o → either (next_is is) c (next i) ≡ true
    begins i x o at (inl h) = either_left _ _ (from_subset b (next_is is) in_is (next i) (pr.first i x o h at))
    begins i x o at (inr h) = either_right (next_is is (next i)) (c (next i)) (qs.first i x o h at)

pub either_in : (f g m : Test) → subset f m ≡ true → subset g m ≡ true → (next : Option Terminal) → either f g next ≡ true → m next ≡ true
either_in f g m in_f in_g next e = go (true_or_false (f next)) e
  where
    go : ((f next ≡ true) ⊎ (f next ≡ false)) → cond (f next) true (g next) ≡ true → m next ≡ true
    go (inl h) e = from_subset f m in_f next h
    go (inr h) e = from_subset g m in_g next (rw h at e)

pub never : {A : Type 0} (b e : Test) → Exact {A = A} nothing too_deep b e
never b e = record {
  sound = λ i x o at. cc;
  complete = λ i x o h at. absurd h;
  first = λ i x o h at. absurd h;
}

-- the last of several
pub only : {A : Type 0} {r : Rule A} {p : Parser A} {b e : Test} (is : Terminal → Bool) → subset b (next_is is) ≡ true → Exact r p b e → Exact r (when is p refuse) b e
only {A} {r} {p} {b} {e} is in_is pr = record {
  sound = λ i x o at. which i x o (next_is is (next i)) at;
  complete = λ i x o h at. rw (from_subset b (next_is is) in_is (next i) (pr.first i x o h at)) (pr.complete i x o h at);
  first = pr.first;
}
  where
    which : (i : Input) (x : A) (o : Input) (t : Bool) → cond t (p i) (refuse i) ≡ Ok (x, o) → r i x o
    which i x o true at = pr.sound i x o at
    which i x o false at = absurd cc

pub maybe : {A : Type 0} {r : Rule A} {p : Parser A} {b e : Test} (is : Terminal → Bool) (e' : Test) → subset b (next_is is) ≡ true → subset e' e ≡ true → apart e' (next_is is) ≡ true → Exact r p b e → Exact (optional r) (try is p) (either (next_is is) e') e'
maybe {A} {r} {p} {b} {e} is e' in_is fewer not_is pr = record {
  sound = λ i x o at. which i x o (next_is is (next i)) at;
  complete = λ i x o h at. found i x o h at;
  first = λ i x o h at. begins i x o h at;
}
  where
    which : (i : Input) (x : Option A) (o : Input) (t : Bool) → cond t ((Some <&> p) i) (pure None i) ≡ Ok (x, o) → optional r i x o
    which i x o true at =
        let h = then_ok (p i) (λ x o. Ok (Some x, o)) (x, o) at in
        subst (λ (w : Option A × Input). optional r i w.0 w.1) (ok_is (Some h.0, h.1) (x, o) h.3) (pr.sound i h.0 h.1 h.2)
    which i x o false at = subst (λ (w : Option A × Input). optional r i w.0 w.1) (ok_is (None, i) (x, o) at) refl

    found : (i : Input) (x : Option A) (o : Input) → optional r i x o → e' (next o) ≡ true → try is p i ≡ Ok (x, o)
    found i None o h at = rw (from_apart e' (next_is is) not_is (next i) (subst (λ (w : Input). e' (next w) ≡ true) h at)) (ap (λ (w : Input). Ok (None, w)) (sym h))
    found i (Some x) o h at =
        let ends : e (next o) ≡ true = from_subset e' e fewer (next o) at in
        rw (from_subset b (next_is is) in_is (next i) (pr.first i x o h ends)) (ap (λ (y : Outcome A). and_then y (λ x o. Ok (Some x, o))) (pr.complete i x o h ends))

    begins : (i : Input) (x : Option A) (o : Input) → optional r i x o → e' (next o) ≡ true → either (next_is is) e' (next i) ≡ true
    begins i None o h at = either_right (next_is is (next i)) _ (subst (λ (w : Input). e' (next w) ≡ true) h at)
    begins i (Some x) o h at = either_left _ _ (from_subset b (next_is is) in_is (next i) (pr.first i x o h (from_subset e' e fewer (next o) at)))

lacks_is : (is : Terminal → Bool) (next : Option Terminal) → next_is is next ≡ false → lacks is next ≡ true
lacks_is is None e = refl
lacks_is is (Some kind) e = rw e refl

lacks_not : (is : Terminal → Bool) (next : Option Terminal) → lacks is next ≡ true → next_is is next ≡ false
lacks_not is None e = refl
lacks_not is (Some kind) e = go (is kind) e
  where
    go : (t : Bool) → cond t false true ≡ true → t ≡ false
    go true e = absurd cc
    go false e = refl

-- as `maybe`, where what may follow may begin with the same token, too
pub maybe_unless : {A : Type 0} {r : Rule A} {p : Parser A} {b e : Test} (is : Terminal → Bool) (e' : Test) → subset b (next_is is) ≡ true → subset e' e ≡ true → Exact r p b e → Exact (optional_unless is r) (try is p) (either (next_is is) e') e'
maybe_unless {A} {r} {p} {b} {e} is e' in_is fewer pr = record {
  sound = λ i x o at. which i x o (true_or_false (next_is is (next i))) at;
  complete = λ i x o h at. found i x o h at;
  first = λ i x o h at. begins i x o h at;
}
  where
    which : (i : Input) (x : Option A) (o : Input) → ((next_is is (next i) ≡ true) ⊎ (next_is is (next i) ≡ false)) → try is p i ≡ Ok (x, o) → optional_unless is r i x o
    which i x o (inl t) at =
        let h = then_ok (p i) (λ x o. Ok (Some x, o)) (x, o) (rw t at at) in
        subst (λ (w : Option A × Input). optional_unless is r i w.0 w.1) (ok_is (Some h.0, h.1) (x, o) h.3) (pr.sound i h.0 h.1 h.2)
    which i x o (inr t) at = subst (λ (w : Option A × Input). optional_unless is r i w.0 w.1) (ok_is (None, i) (x, o) (rw t at at)) (refl, lacks_is is (next i) t)

    found : (i : Input) (x : Option A) (o : Input) → optional_unless is r i x o → e' (next o) ≡ true → try is p i ≡ Ok (x, o)
    found i None o h at = rw (lacks_not is (next i) h.1) (ap (λ (w : Input). Ok (None, w)) (sym h.0))
    found i (Some x) o h at =
        let ends : e (next o) ≡ true = from_subset e' e fewer (next o) at in
        rw (from_subset b (next_is is) in_is (next i) (pr.first i x o h ends)) (ap (λ (y : Outcome A). and_then y (λ x o. Ok (Some x, o))) (pr.complete i x o h ends))

    begins : (i : Input) (x : Option A) (o : Input) → optional_unless is r i x o → e' (next o) ≡ true → either (next_is is) e' (next i) ≡ true
    begins i None o h at = either_right (next_is is (next i)) _ (subst (λ (w : Input). e' (next w) ≡ true) h.0 at)
    begins i (Some x) o h at = either_left _ _ (from_subset b (next_is is) in_is (next i) (pr.first i x o h (from_subset e' e fewer (next o) at)))

-- this one, but not where it is forbidden
pub unless : {A : Type 0} {r : Rule A} {p : Parser A} {b e : Test} (forbidden : Bool) → Exact r p b e → Exact (rule.unless forbidden r) (read.unless forbidden p) b e
unless true pr = record {
  sound = λ i x o at. cc;
  complete = λ i x o h at. absurd h;
  first = λ i x o h at. absurd h;
}
unless false pr = pr

-- a tree that passes
pub such_that : {A : Type 0} {r : Rule A} {p : Parser A} {b e : Test} (passes : A → Bool) → Exact r p b e → Exact (rule.such_that passes r) (read.such_that passes p) b e
such_that {A} {r} {p} passes pr = record {
  sound = λ i x o at. let h = then_ok (p i) (checked passes) (x, o) at in passed i h.0 h.1 h.2 x o (passes h.0) refl h.3;
  complete = λ i x o h at.
      ap (λ (y : Outcome A). and_then y (checked passes)) (pr.complete i x o h.0 at) ∙ ap (λ (b : Bool). cond b (done (x, o)) (Err (Unexpected, o))) h.1;
  first = λ i x o h at. pr.first i x o h.0 at;
}
  where
    passed : (i : Input) (y : A) (m : Input) → p i ≡ Ok (y, m) → (x : A) (o : Input) (t : Bool) → passes y ≡ t → cond t (done (y, m)) (Err (Unexpected, m)) ≡ Ok (x, o) → r i x o × (passes x ≡ true)
    passed i y m is x o true h at = subst (λ (w : A × Input). r i w.0 w.1 × (passes w.0 ≡ true)) (ok_is (y, m) (x, o) at) (pr.sound i y m is, h)
    passed i y m is x o false h at = absurd cc

abbrev put : {P A : Type 0} → A → P → Placed P A
put x place = record { it = x; place = place }

pub located : {P A : Type 0} {r : Rule A} {p : Parser A} {b e : Test} (m : Meaning P) → Exact r p b e → Exact (rule.placed m r) (placed m p) b e
located {P} {A} {r} {p} m pr = record {
  sound = λ i z o is.
      let h = then_ok (p i) (λ x o. Ok (put x (place_between m i o), o)) (z, o) is in
      subst (λ (w : Placed P A × Input). rule.placed m r i w.0 w.1) (ok_is (put h.0 (place_between m i h.1), h.1) (z, o) h.3) (pr.sound i h.0 h.1 h.2, refl);
  complete = λ i z o h at. ap (λ (y : Outcome A). and_then y (λ x o. Ok (put x (place_between m i o), o))) (pr.complete i z.it o h.0 at) ∙ ap (λ (w : P). Ok (put z.it w, o)) (sym h.1);
  first = λ i z o h at. pr.first i z.it o h.0 at;
}

-- between brackets
pub enclosed : {A : Type 0} {r : Rule A} {p : Parser A} {b e : Test} (opening closing : Terminal → Bool) → subset (next_is closing) e ≡ true → Exact r p b e → Exact (rule.between opening r closing) (between opening p closing) (next_is opening) any
enclosed {A} {r} {p} {b} {e} opening closing ends pr =
    mapped (λ x. x.1.0) (seq (weaker (next_is opening) b (same_test (next_is opening)) (all_any b) (mark opening)) (seq (weaker b (next_is closing) (same_test b) ends pr) (mark closing)))

-- another rule for the same
pub restated : {A : Type 0} {r : Rule A} {p : Parser A} {b e : Test} (s : Rule A) → ((i : Input) (x : A) (o : Input) → r i x o → s i x o) → ((i : Input) (x : A) (o : Input) → s i x o → r i x o) → Exact r p b e → Exact s p b e
restated s to from pr = record {
  sound = λ i x o at. to i x o (pr.sound i x o at);
  complete = λ i x o h at. pr.complete i x o (from i x o h) at;
  first = λ i x o h at. pr.first i x o (from i x o h) at;
}
