-- A parser leaves how the text ends as it is.
use Rattle.std.proofs.Common.{◌≡◌, ℕ, zero, suc, Bool, true, false, cond, List, [], ◌∷◌, length, Some, None, Ok, Err, refl, ◌∙◌}
use Rattle.graphql_names.specs.Placed.{Placed}
use Rattle.read_tokens.specs.declared.terminal.Terminal.{Terminal}
use Rattle.read_tokens.specs.Input.{Token, Input, Ending, next, past}
use Rattle.read_grammar.specs.declared.parse_error.ParseError.TheVariants.{Unexpected}
use Rattle.read_grammar.specs.Meaning.{Meaning, place_between}
use Rattle.read_grammar.specs.Kinds.{next_is}
use Rattle.read_grammar.specs.Reading as read
use Rattle.read_grammar.specs.Reading.{Outcome, Parser, and_then, ◌⊙◌, ◌<&>◌, refuse, too_deep, take_from, take, when, try, many_within, many, some, placed, between}

abbrev pub ending_of : {A : Type 0} → Outcome A → Ending
ending_of (Ok z) = z.1.ending
ending_of (Err f) = f.1.ending

pub record Keeps {A : Type 0} (p : Parser A) : Type 0 where
  pub ending : (i : Input) → ending_of (p i) ≡ i.ending

module _ {A B : Type 0} {p : Parser A} {f : A → Parser B} (pp : Keeps p) (ff : (x : A) → Keeps (f x)) where
  then_kept : (y : Outcome A) → ending_of (and_then y f) ≡ ending_of y
  then_kept (Ok z) = (ff z.0).ending z.1
  then_kept (Err g) = refl

  pub bound : Keeps (λ i. and_then (p i) f)
  bound = record { ending = λ i. then_kept (p i) ∙ pp.ending i }

pub given : {A : Type 0} (x : A) → Keeps (λ i. Ok (x, i))
given x = record { ending = λ i. refl }

pub seq : {A B : Type 0} {p : Parser A} {q : Parser B} → Keeps p → Keeps q → Keeps (p ⊙ q)
seq pp qq = bound pp (λ x. bound qq (λ y. given (x, y)))

pub mapped : {A B : Type 0} {p : Parser A} (f : A → B) → Keeps p → Keeps (f <&> p)
mapped f pp = bound pp (λ x. given (f x))

pub refused : {A : Type 0} → Keeps {A = A} refuse
refused = record { ending = λ i. refl }

pub deep : {A : Type 0} → Keeps {A = A} too_deep
deep = record { ending = λ i. refl }

pub choice : {A : Type 0} {p q : Parser A} (is : Terminal → Bool) → Keeps p → Keeps q → Keeps (when is p q)
choice {A} {p} {q} is pp qq = record { ending = λ i. by_case (next_is is (next i)) i }
  where
    by_case : (t : Bool) (i : Input) → ending_of (cond t (p i) (q i)) ≡ i.ending
    by_case true i = pp.ending i
    by_case false i = qq.ending i

pub maybe : {A : Type 0} {p : Parser A} (is : Terminal → Bool) → Keeps p → Keeps (try is p)
maybe is pp = choice is (mapped Some pp) (given None)

abbrev put : {P A : Type 0} → A → P → Placed P A
put x place = record { it = x; place = place }

pub located : {P A : Type 0} {p : Parser A} (m : Meaning P) → Keeps p → Keeps (placed m p)
located {P} {A} {p} m pp = record { ending = λ i. go i (p i) ∙ pp.ending i }
  where
    go : (i : Input) (y : Outcome A) → ending_of (and_then y (λ x o. Ok (put x (place_between m i o), o))) ≡ ending_of y
    go i (Ok z) = refl
    go i (Err f) = refl

pub unless : {A : Type 0} {p : Parser A} (forbidden : Bool) → Keeps p → Keeps (read.unless forbidden p)
unless true pp = refused
unless false pp = pp

pub such_that : {A : Type 0} {p : Parser A} (passes : A → Bool) → Keeps p → Keeps (read.such_that passes p)
such_that {A} passes pp = bound pp (λ x. by_test x (passes x))
  where
    by_test : (x : A) (t : Bool) → Keeps {A = A} (λ o. cond t (Ok (x, o)) (Err (Unexpected, o)))
    by_test x true = given x
    by_test x false = refused

pub token : (is : Terminal → Bool) → Keeps (take is)
unfolding take
token is = record { ending = λ i. go i i.ahead }
  where
    by_test : (i : Input) (t : Token) (ts : List Token) (b : Bool) → ending_of {A = Token} (cond b (Ok (t, past i t ts)) (Err (Unexpected, i))) ≡ i.ending
    by_test i t ts true = refl
    by_test i t ts false = refl

    go : (i : Input) (ts : List Token) → ending_of (take_from is i ts) ≡ i.ending
    go i [] = refl
    go i (t ∷ ts) = by_test i t ts (is t.kind)

module _ {A : Type 0} {p : Parser A} (begins : Terminal → Bool) (pp : Keeps p) where
  many_kept : (n : ℕ) → Keeps (many_within begins p n)
  unfolding many_within
  many_kept zero = given []
  many_kept (suc n) = let rest = many_kept n in choice begins (bound pp (λ x. bound rest (λ xs. given (x ∷ xs)))) (given [])

  pub several : Keeps (many begins p)
  unfolding many
  several = record { ending = λ i. (many_kept (length i.ahead)).ending i }

  pub one_or_more : Keeps (some begins p)
  unfolding some
  one_or_more = choice begins several refused

pub enclosed : {A : Type 0} {p : Parser A} (opening closing : Terminal → Bool) → Keeps p → Keeps (between opening p closing)
enclosed opening closing pp = mapped (λ x. x.1.0) (seq (mapped (λ _. tt) (token opening)) (seq pp (mapped (λ _. tt) (token closing))))
