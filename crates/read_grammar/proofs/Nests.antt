-- Where a parser stops, and how deep it has gone.
use Rattle.std.proofs.Common.{◌≡◌, ℕ, zero, suc, ◌+◌, ◌-◌, ◌≤◌, Bool, true, false, cond, if◌then◌else◌, List, [], ◌∷◌, ◌++◌, length, Some, None, Ok, Err, refl, sym, ap, ◌∙◌, arith, append_assoc}
use Rattle.read_tokens.specs.declared.terminal.Terminal.{Terminal}
use Rattle.read_grammar.specs.declared.parse_error.ParseError.{ParseError}
use Rattle.read_grammar.specs.declared.parse_error.ParseError.TheVariants.{Unexpected, Nesting, Memory}
use Rattle.read_tokens.specs.Input.{Token, Input, next, past}
use Rattle.graphql_names.specs.Placed.{Placed}
use Rattle.read_grammar.specs.Meaning.{Meaning, place_between}
use Rattle.read_grammar.specs.Kinds.{next_is}
use Rattle.read_grammar.specs.Depth.{is_opening, is_closing, depth}
use Rattle.read_grammar.proofs.Tests.{Test, apart, from_apart, subset, from_subset}
use Rattle.read_grammar.specs.Reading as read
use Rattle.read_grammar.specs.Reading.{Outcome, Parser, and_then, ◌⊙◌, ◌<&>◌, refuse, too_deep, take_from, take, when, try, many_within, many, some, placed, between}

-- how many tokens there are of these terminals
abbrev pub count : (Terminal → Bool) → List Token → ℕ
count is [] = 0
count is (t ∷ ts) = (if is t.kind then 1 else 0) + count is ts

abbrev pub opens : List Token → ℕ
opens = count is_opening

abbrev pub closes : List Token → ℕ
closes = count is_closing

pub count-append : (is : Terminal → Bool) (xs ys : List Token) → count is (xs ++ ys) ≡ count is xs + count is ys
count-append is [] ys = omega arith
count-append is (t ∷ xs) ys = omega (arith, count-append is xs ys)

pub not_both : (kind : Terminal) → is_opening kind ≡ true → is_closing kind ≡ false
not_both kind h = from_apart (next_is is_opening) (next_is is_closing) refl (Some kind) h

depth-append : (xs ys : List Token) (n : ℕ) → depth xs + closes xs ≤ n → opens xs + depth ys ≤ n → depth (xs ++ ys) + closes xs ≤ n
unfolding depth
depth-append [] ys n h l = omega arith
depth-append (t ∷ xs) ys n h l = go (is_opening t.kind) (is_closing t.kind) (not_both t.kind) (λ m. depth-append xs ys m) h l
  where
    go : (o c : Bool) → (o ≡ true → c ≡ false) → ((m : ℕ) → depth xs + closes xs ≤ m → opens xs + depth ys ≤ m → depth (xs ++ ys) + closes xs ≤ m) → (cond o (depth xs + 1) (cond c (depth xs - 1) (depth xs))) + (cond c 1 0 + closes xs) ≤ n → (cond o 1 0 + opens xs) + depth ys ≤ n → (cond o (depth (xs ++ ys) + 1) (cond c (depth (xs ++ ys) - 1) (depth (xs ++ ys)))) + (cond c 1 0 + closes xs) ≤ n
    go true true apart f h l = let never = apart refl in absurd cc
    go true false apart f h l = let k = f (n - 1) (omega arith) (omega arith) in omega arith
    go false true apart f h l = let k = f n (omega arith) (omega arith) in omega arith
    go false false apart f h l = let k = f n (omega arith) (omega arith) in omega arith

-- what is open at the end of a list is no more than its depth
pub open_depth : (xs : List Token) → opens xs ≤ depth xs + closes xs
unfolding depth
open_depth [] = omega arith
open_depth (t ∷ xs) = go (is_opening t.kind) (is_closing t.kind) (open_depth xs)
  where
    go : (o c : Bool) → opens xs ≤ depth xs + closes xs → cond o 1 0 + opens xs ≤ (cond o (depth xs + 1) (cond c (depth xs - 1) (depth xs))) + (cond c 1 0 + closes xs)
    go true true h = omega arith
    go true false h = omega arith
    go false true h = omega arith
    go false false h = omega arith

pub depth_front : (xs ys : List Token) → depth xs ≤ depth (xs ++ ys)
unfolding depth
depth_front [] ys = omega arith
depth_front (t ∷ xs) ys = go (is_opening t.kind) (is_closing t.kind) (depth_front xs ys)
  where
    go : (o c : Bool) → depth xs ≤ depth (xs ++ ys) → cond o (depth xs + 1) (cond c (depth xs - 1) (depth xs)) ≤ cond o (depth (xs ++ ys) + 1) (cond c (depth (xs ++ ys) - 1) (depth (xs ++ ys)))
    go true c h = omega arith
    go false true h = omega arith
    go false false h = omega arith

-- tokens that open as many brackets as they close, nested no deeper than n
pub record Closed (n : ℕ) (taken : List Token) : Type 0 where
  pub even : opens taken ≡ closes taken
  pub deep : depth taken ≤ n

Closed-append : (n : ℕ) (xs ys : List Token) → Closed n xs → Closed n ys → Closed n (xs ++ ys)
Closed-append n xs ys x y = record {
  even = count-append is_opening xs ys ∙ (ap (λ (m : ℕ). m + opens ys) x.even ∙ ap (λ (m : ℕ). closes xs + m) y.even) ∙ sym (count-append is_closing xs ys);
  deep = let e = x.even in let k = depth-append xs ys (n + closes xs) (let d = x.deep in omega arith) (let d = y.deep in omega arith) in omega arith;
}

-- the next token opens a bracket, one more than may be open
pub record TooDeep (n : ℕ) (taken : List Token) (o : Input) : Type 0 where
  pub full : opens taken ≡ closes taken + n
  pub opening : next_is is_opening (next o) ≡ true
  pub within : depth taken ≤ n

abbrev pub StopsAt : ℕ → List Token → ParseError → Input → Type 0
StopsAt n taken Unexpected o = Unit {0}
StopsAt n taken Nesting o = TooDeep n taken o
StopsAt n taken Memory o = ⊥

abbrev pub At : {A : Type 0} → ℕ → List Token → Outcome A → Type 0
At n ts (Ok z) = (taken : List Token) × (ts ≡ taken ++ z.1.ahead) × Closed n taken
At n ts (Err f) = (taken : List Token) × (ts ≡ taken ++ f.1.ahead) × StopsAt n taken f.0 f.1

pub record Nested {A : Type 0} (n : ℕ) (p : Parser A) : Type 0 where
  pub at : (i : Input) → At n i.ahead (p i)

none_closed : (n : ℕ) → Closed n []
unfolding depth
none_closed n = record { even = refl; deep = omega arith }

stops_after : (n : ℕ) (xs ys : List Token) (stop : ParseError) (o : Input) → Closed n xs → StopsAt n ys stop o → StopsAt n (xs ++ ys) stop o
stops_after n xs ys Unexpected o e h = tt
stops_after n xs ys Nesting o c h =
    let e = c.even in
    let f = h.full in
    let k = depth-append xs ys (n + closes xs) (let d = c.deep in omega arith) (let d = h.within in omega arith) in
    record { full = omega (arith, count-append is_opening xs ys, count-append is_closing xs ys); opening = h.opening; within = omega arith }
stops_after n xs ys Memory o e h = h

module _ {A B : Type 0} {n : ℕ} {q : Parser A} {f : A → Parser B} (pp : Nested n q) (ff : (x : A) → Nested n (f x)) where
  following : (ts xs : List Token) (i : Input) (y : Outcome B) → ts ≡ xs ++ i.ahead → Closed n xs → At n i.ahead y → At n ts y
  following ts xs i (Ok z) e c h = (xs ++ h.0, e ∙ ap (λ (us : List Token). xs ++ us) h.1 ∙ sym (append_assoc xs h.0 z.1.ahead), Closed-append n xs h.0 c h.2)
  following ts xs i (Err g) e c h = (xs ++ h.0, e ∙ ap (λ (us : List Token). xs ++ us) h.1 ∙ sym (append_assoc xs h.0 g.1.ahead), stops_after n xs h.0 g.0 g.1 c h.2)

  then_at : (ts : List Token) (y : Outcome A) → At n ts y → At n ts (and_then y f)
  then_at ts (Ok z) h = following ts h.0 z.1 (f z.0 z.1) h.1 h.2 ((ff z.0).at z.1)
  then_at ts (Err g) h = h

  pub bound : Nested n (λ i. and_then (q i) f)
  bound = record { at = λ i. then_at i.ahead (q i) (pp.at i) }

pub given : {A : Type 0} (n : ℕ) (x : A) → Nested n (λ i. Ok (x, i))
given n x = record { at = λ i. ([], refl, none_closed n) }

pub seq : {A B : Type 0} {n : ℕ} {q : Parser A} {r : Parser B} → Nested n q → Nested n r → Nested n (q ⊙ r)
seq {A} {B} {n} pp qq = bound pp (λ x. bound qq (λ y. given n (x, y)))

pub mapped : {A B : Type 0} {n : ℕ} {q : Parser A} (f : A → B) → Nested n q → Nested n (f <&> q)
mapped {A} {B} {n} f pp = bound pp (λ x. given n (f x))

pub refused : {A : Type 0} (n : ℕ) → Nested {A = A} n refuse
refused n = record { at = λ i. ([], refl, tt) }

pub choice : {A : Type 0} {n : ℕ} {q r : Parser A} (is : Terminal → Bool) → Nested n q → Nested n r → Nested n (when is q r)
choice {A} {n} {q} {r} is pp qq = record { at = λ i. by_case (next_is is (next i)) i }
  where
    by_case : (t : Bool) (i : Input) → At n i.ahead (cond t (q i) (r i))
    by_case true i = pp.at i
    by_case false i = qq.at i

pub maybe : {A : Type 0} {n : ℕ} {q : Parser A} (is : Terminal → Bool) → Nested n q → Nested n (try is q)
maybe {A} {n} is pp = choice is (mapped Some pp) (given n None)

abbrev put : {P A : Type 0} → A → P → Placed P A
put x place = record { it = x; place = place }

pub located : {P A : Type 0} {n : ℕ} {q : Parser A} (m : Meaning P) → Nested n q → Nested n (placed m q)
located {P} {A} {n} {q} m pp = record { at = λ i. go i (q i) (pp.at i) }
  where
    go : (i : Input) (y : Outcome A) → At n i.ahead y → At n i.ahead (and_then y (λ x o. Ok (put x (place_between m i o), o)))
    go i (Ok z) h = h
    go i (Err f) h = h

pub unless : {A : Type 0} {n : ℕ} {q : Parser A} (forbidden : Bool) → Nested n q → Nested n (read.unless forbidden q)
unless {A} {n} true pp = refused n
unless false pp = pp

pub such_that : {A : Type 0} {n : ℕ} {q : Parser A} (passes : A → Bool) → Nested n q → Nested n (read.such_that passes q)
such_that {A} {n} passes pp = bound pp (λ x. by_test x (passes x))
  where
    by_test : (x : A) (t : Bool) → Nested {A = A} n (λ o. cond t (Ok (x, o)) (Err (Unexpected, o)))
    by_test x true = given n x
    by_test x false = refused n

module _ {A : Type 0} {n : ℕ} {q : Parser A} (begins : Terminal → Bool) (pp : Nested n q) where
  many_at : (m : ℕ) → Nested n (many_within begins q m)
  unfolding many_within
  many_at zero = given n []
  many_at (suc m) = let rest = many_at m in choice begins (bound pp (λ x. bound rest (λ xs. given n (x ∷ xs)))) (given n [])

  pub several : Nested n (many begins q)
  unfolding many
  several = record { at = λ i. (many_at (length i.ahead)).at i }

  pub one_or_more : Nested n (some begins q)
  unfolding some
  one_or_more = choice begins several (refused n)

-- a token that is no bracket
abbrev pub bracket : Test
bracket next = cond (next_is is_opening next) true (next_is is_closing next)

not_bracket : (o c : Bool) → cond o true c ≡ false → (o ≡ false) × (c ≡ false)
not_bracket true c h = absurd cc
not_bracket false c h = (refl, h)

pub token : (n : ℕ) (is : Terminal → Bool) → apart (next_is is) bracket ≡ true → Nested n (take is)
unfolding take depth
token n is plain = record { at = λ i. go i i.ahead refl }
  where
    one : (t : Token) → is t.kind ≡ true → Closed n (t ∷ [])
    one t h =
        let b = not_bracket (is_opening t.kind) (is_closing t.kind) (from_apart (next_is is) bracket plain (Some t.kind) h) in
        record { even = rw (b.0, b.1) refl; deep = rw (b.0, b.1) (omega arith) }

    by_test : (i : Input) (t : Token) (ts : List Token) (b : Bool) → is t.kind ≡ b → i.ahead ≡ t ∷ ts → At n i.ahead (cond b (Ok (t, past i t ts)) (Err (Unexpected, i)))
    by_test i t ts true h e = (t ∷ [], e, one t h)
    by_test i t ts false h e = ([], refl, tt)

    go : (i : Input) (ts : List Token) → i.ahead ≡ ts → At n i.ahead (take_from is i ts)
    go i [] e = ([], refl, tt)
    go i (t ∷ ts) e = by_test i t ts (is t.kind) refl e

pub mark : (n : ℕ) (is : Terminal → Bool) → apart (next_is is) bracket ≡ true → Nested n (read.mark is)
mark n is plain = mapped (λ _. tt) (token n is plain)

pub never_deep : {A : Type 0} (opening : Terminal → Bool) → subset (next_is opening) (next_is is_opening) ≡ true → Nested {A = A} 0 (when opening too_deep refuse)
unfolding depth
never_deep {A} opening opens_one = record { at = λ i. by_test i (next_is opening (next i)) refl }
  where
    by_test : (i : Input) (b : Bool) → next_is opening (next i) ≡ b → At {A = A} 0 i.ahead (cond b (too_deep i) (refuse i))
    by_test i true h = ([], refl, record { full = refl; opening = from_subset (next_is opening) (next_is is_opening) opens_one (next i) h; within = omega arith })
    by_test i false h = ([], refl, tt)

module _ {A : Type 0} {n : ℕ} {q : Parser A} (opening closing : Terminal → Bool) (opens_one : subset (next_is opening) (next_is is_opening) ≡ true) (closes_one : subset (next_is closing) (next_is is_closing) ≡ true) (pp : Nested n q) where
  abbrev ending : A → Outcome (Unit {0}) → Outcome A
  ending x y = and_then (and_then {A = A × Unit {0}} {B = Unit {0} × (A × Unit {0})} (and_then y (λ u o. Ok ((x, u), o))) (λ w o. Ok ((tt, w), o))) (λ w o. Ok (w.1.0, o))

  both_closed : (t u : Token) (xs : List Token) → is_opening t.kind ≡ true → is_closing u.kind ≡ true → Closed n xs → Closed (suc n) (t ∷ (xs ++ u ∷ []))
  unfolding depth
  both_closed t u xs to uc c =
      let ct = not_both t.kind to in
      let ou : is_opening u.kind ≡ false = apart_kinds u uc in
      let e = c.even in let d = c.deep in
      let one : depth (u ∷ []) ≡ 0 = rw (ou, uc) refl in
      let o1 : opens (u ∷ []) ≡ 0 = rw ou refl in
      let c1 : closes (u ∷ []) ≡ 1 = rw uc refl in
      let ot : opens (t ∷ (xs ++ u ∷ [])) ≡ 1 + opens (xs ++ u ∷ []) = rw to refl in
      let ctt : closes (t ∷ (xs ++ u ∷ [])) ≡ closes (xs ++ u ∷ []) = rw ct (omega arith) in
      let dt : depth (t ∷ (xs ++ u ∷ [])) ≡ depth (xs ++ u ∷ []) + 1 = rw to refl in
      let k = depth-append xs (u ∷ []) (n + closes xs) (omega arith) (omega arith) in
      record { even = omega (arith, count-append is_opening xs (u ∷ []), count-append is_closing xs (u ∷ [])); deep = omega arith }
    where
      apart_kinds : (u : Token) → is_closing u.kind ≡ true → is_opening u.kind ≡ false
      apart_kinds u h = from_apart (next_is is_closing) (next_is is_opening) refl (Some u.kind) h

  close_test : (t : Token) (ts xs : List Token) (x : A) (o : Input) (u : Token) (us : List Token) (b : Bool) → o.ahead ≡ u ∷ us → is_opening t.kind ≡ true → Closed n xs → ts ≡ xs ++ u ∷ us → closing u.kind ≡ b
      → At (suc n) (t ∷ ts) (ending x (and_then (cond b (Ok (u, past o u us)) (Err (Unexpected, o))) (λ w o. Ok (tt, o))))
  close_test t ts xs x o u us true left to c e h =
      (t ∷ (xs ++ u ∷ []), ap (λ (w : List Token). t ∷ w) (e ∙ sym (append_assoc xs (u ∷ []) us)), both_closed t u xs to (from_subset (next_is closing) (next_is is_closing) closes_one (Some u.kind) h) c)
  close_test t ts xs x o u us false left to c e h = (t ∷ xs, ap (λ (w : List Token). t ∷ w) (e ∙ ap (λ (w : List Token). xs ++ w) (sym left)), tt)

  close_at : (t : Token) (ts xs : List Token) (x : A) (o : Input) (us : List Token) → o.ahead ≡ us → is_opening t.kind ≡ true → Closed n xs → ts ≡ xs ++ us
      → At (suc n) (t ∷ ts) (ending x (and_then (take_from closing o us) (λ w o. Ok (tt, o))))
  close_at t ts xs x o [] left to c e = (t ∷ xs, ap (λ (w : List Token). t ∷ w) (e ∙ ap (λ (w : List Token). xs ++ w) (sym left)), tt)
  close_at t ts xs x o (u ∷ us) left to c e = close_test t ts xs x o u us (closing u.kind) left to c e refl

  stop_in : (t : Token) (xs : List Token) (stop : ParseError) (o : Input) → is_opening t.kind ≡ true → StopsAt n xs stop o → StopsAt (suc n) (t ∷ xs) stop o
  unfolding depth
  stop_in t xs Unexpected o to h = tt
  stop_in t xs Nesting o to h =
      let f = h.full in
      let ot : opens (t ∷ xs) ≡ 1 + opens xs = rw to refl in
      let ct : closes (t ∷ xs) ≡ closes xs = rw (not_both t.kind to) (omega arith) in
      let d = h.within in
      let dt : depth (t ∷ xs) ≡ depth xs + 1 = rw to refl in
      record { full = omega arith; opening = h.opening; within = omega arith }
  stop_in t xs Memory o to h = h

  inside : (t : Token) (ts : List Token) (y : Outcome A) → is_opening t.kind ≡ true → At n ts y
      → At (suc n) (t ∷ ts) (and_then (and_then {A = A × Unit {0}} {B = Unit {0} × (A × Unit {0})} (and_then y (λ x m. and_then (read.mark closing m) (λ u o. Ok ((x, u), o)))) (λ w o. Ok ((tt, w), o))) (λ w o. Ok (w.1.0, o)))
  unfolding take
  inside t ts (Ok z) to h = close_at t ts h.0 z.0 z.1 z.1.ahead refl to h.2 h.1
  inside t ts (Err f) to h = (t ∷ h.0, ap (λ (w : List Token). t ∷ w) h.1, stop_in t h.0 f.0 f.1 to h.2)

  enclosed_from : (i : Input) (ts : List Token) → i.ahead ≡ ts → At (suc n) ts (and_then {A = Unit {0} × (A × Unit {0})} (and_then {A = Unit {0}} (and_then {A = Token} (take_from opening i ts) (λ w o. Ok (tt, o))) (λ x m. and_then ((q ⊙ read.mark closing) m) (λ y o. Ok ((x, y), o)))) (λ x o. Ok (x.1.0, o)))
  enclosed_from i [] e = ([], sym e, tt)
  enclosed_from i (t ∷ ts) e = go (opening t.kind) refl
    where
      go : (b : Bool) → opening t.kind ≡ b → At (suc n) (t ∷ ts) (and_then {A = Unit {0} × (A × Unit {0})} (and_then {A = Unit {0}} (and_then {A = Token} (cond b (Ok (t, past i t ts)) (Err (Unexpected, i))) (λ w o. Ok (tt, o))) (λ x m. and_then ((q ⊙ read.mark closing) m) (λ y o. Ok ((x, y), o)))) (λ x o. Ok (x.1.0, o)))
      go true h = inside t ts (q (past i t ts)) (from_subset (next_is opening) (next_is is_opening) opens_one (Some t.kind) h) (pp.at (past i t ts))
      go false h = ([], sym e, tt)

  pub enclosed : Nested (suc n) (between opening q closing)
  unfolding take
  enclosed = record { at = λ i. enclosed_from i i.ahead refl }

pub deep_or : {A : Type 0} {q : Parser A} (opening : Terminal → Bool) → subset (next_is opening) (next_is is_opening) ≡ true → Nested 0 q → Nested 0 (when opening too_deep q)
unfolding depth
deep_or {A} {q} opening opens_one pp = record { at = λ i. by_test i (next_is opening (next i)) refl }
  where
    by_test : (i : Input) (b : Bool) → next_is opening (next i) ≡ b → At {A = A} 0 i.ahead (cond b (too_deep i) (q i))
    by_test i true h = ([], refl, record { full = refl; opening = from_subset (next_is opening) (next_is is_opening) opens_one (next i) h; within = omega arith })
    by_test i false h = pp.at i
