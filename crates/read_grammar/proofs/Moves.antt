-- What a step of the cursor does.
use Rattle.std.proofs.Common.{◌≡◌, ℕ, suc, Bool, true, false, cond, List, [], ◌∷◌, Ok, Err, refl, sym}
use Rattle.read_tokens.specs.declared.terminal.Terminal.{Terminal}
use Rattle.read_grammar.specs.declared.parse_error.ParseError.TheVariants.{Unexpected}
use Rattle.read_tokens.specs.Input.{Token, Input, next, next_of}
use Rattle.read_tokens.specs.Cursor.{skipped, skipped_in}
use Rattle.read_grammar.specs.Kinds.{next_is}
use Rattle.read_grammar.specs.Reading as read
use Rattle.read_grammar.specs.Reading.{Parser, and_then, ◌<&>◌, ◌⊙◌, take_from, take, between}

takes_from : (is : Terminal → Bool) (i : Input) (ts : List Token) → next_is is (next_of ts) ≡ true → (t : Token) × (us : List Token) × (ts ≡ t ∷ us) × (take_from is i ts ≡ Ok (t, skipped_in i ts))
takes_from is i [] h = absurd cc
takes_from is i (t ∷ us) h = (t, us, refl, rw h refl)

refuses_from : (is : Terminal → Bool) (i : Input) (ts : List Token) → next_is is (next_of ts) ≡ false → take_from is i ts ≡ Err (Unexpected, i)
refuses_from is i [] h = refl
refuses_from is i (t ∷ us) h = rw h refl

pub mark_yes : (is : Terminal → Bool) (i : Input) → next_is is (next i) ≡ true → read.mark is i ≡ Ok (tt, skipped i)
unfolding take
mark_yes is i h = let k = takes_from is i i.ahead h in rw k.3 refl

pub mark_no : (is : Terminal → Bool) (i : Input) → next_is is (next i) ≡ false → read.mark is i ≡ Err (Unexpected, i)
unfolding take
mark_no is i h = rw (refuses_from is i i.ahead h) refl

-- what f makes of the next token
pub taken_yes : {A : Type 0} (f : Token → A) (is : Terminal → Bool) (i : Input) (x : A) → next_is is (next i) ≡ true → ((t : Token) (ts : List Token) → i.ahead ≡ t ∷ ts → x ≡ f t) → (f <&> take is) i ≡ Ok (x, skipped i)
unfolding take
taken_yes f is i x h made = let k = takes_from is i i.ahead h in rw (k.3, made k.0 k.1 k.2) refl

pub taken_no : {A : Type 0} (f : Token → A) (is : Terminal → Bool) (i : Input) → next_is is (next i) ≡ false → (f <&> take is) i ≡ Err (Unexpected, i)
unfolding take
taken_no f is i h = rw (refuses_from is i i.ahead h) refl

pub between_no : {A : Type 0} (is closing : Terminal → Bool) (q : Parser A) (i : Input) → next_is is (next i) ≡ false → between is q closing i ≡ Err (Unexpected, i)
between_no is closing q i h = rw (mark_no is i h) refl

pub open_is : (is : Terminal → Bool) (n : ℕ) (i : Input) → read.opening is (suc n) i ≡ read.mark is i
open_is is n i = go (next_is is (next i)) refl
  where
    go : (t : Bool) → next_is is (next i) ≡ t → cond t (read.mark is i) (read.refuse i) ≡ read.mark is i
    go true h = refl
    go false h = sym (mark_no is i h)

-- brackets round what is read at the next lower limit
abbrev pub bracketed : {A : Type 0} → (Terminal → Bool) → ℕ → Parser A → (Terminal → Bool) → Parser A
bracketed opening n q closing = (λ x. x.1.0) <&> read.opening opening n ⊙ q ⊙ read.mark closing

pub bracketed_is : {A : Type 0} (opening closing : Terminal → Bool) (n : ℕ) (q : Parser A) (i : Input) → between opening q closing i ≡ bracketed opening (suc n) q closing i
bracketed_is {A} opening closing n q i = rw (open_is opening n i) refl

pub bracketed_none : {A : Type 0} (opening closing : Terminal → Bool) (q : Parser A) (i : Input) → read.when opening read.too_deep read.refuse i ≡ bracketed opening 0 q closing i
bracketed_none {A} opening closing q i = go (next_is opening (next i))
  where
    go : (t : Bool) → cond t (read.too_deep {A = A} i) (read.refuse i) ≡ and_then {A = Unit {0} × (A × Unit {0})} (and_then {A = Unit {0}} (cond t (read.too_deep i) (read.refuse i)) (λ x m. and_then ((q ⊙ read.mark closing) m) (λ y o. Ok ((x, y), o)))) (λ x o. Ok (x.1.0, o))
    go true = refl
    go false = refl
