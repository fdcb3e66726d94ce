-- Private: leads to `Derives` and `Says`. How tokens are read: a parser for each way to combine rules.
use Rattle.std.specs.Prelude.{◌≡◌, ◌≢◌, ℕ, zero, suc, Bool, true, false, if◌then◌else◌, List, [], ◌∷◌, length, Option, Some, None, Result, Ok, Err}
use Rattle.graphql_names.specs.Placed.{Placed}
use Rattle.read_tokens.specs.declared.terminal.Terminal.{Terminal}
use Rattle.read_tokens.specs.Input.{Token, Input, next, past}
use Rattle.read_grammar.specs.declared.parse_error.ParseError.{ParseError}
use Rattle.read_grammar.specs.declared.parse_error.ParseError.TheVariants.{Memory, Unexpected, Nesting}
use Rattle.read_grammar.specs.Meaning.{Meaning, place_between}
use Rattle.read_grammar.specs.Kinds.{next_is}

-- the tree and the input after it, or why the parser stops and the input there
abbrev pub Outcome : Type 0 → Type 0
Outcome A = Result (A × Input) (ParseError × Input)

abbrev pub Parser : Type 0 → Type 0
Parser A = Input → Outcome A

abbrev pub and_then : {A B : Type 0} → Outcome A → (A → Parser B) → Outcome B
and_then (Ok p) f = f p.0 p.1
and_then (Err e) f = Err e

abbrev pub pure : {A : Type 0} → A → Parser A
pure x i = Ok (x, i)

infixr 30 ◌⊙◌
abbrev pub ◌⊙◌ : {A B : Type 0} → Parser A → Parser B → Parser (A × B)
(p ⊙ q) i = and_then (p i) (λ x m. and_then (q m) (λ y o. Ok ((x, y), o)))

infixr 20 ◌<&>◌
abbrev pub ◌<&>◌ : {A B : Type 0} → (A → B) → Parser A → Parser B
(f <&> p) i = and_then (p i) (λ x o. Ok (f x, o))

-- stops: the next token cannot follow
abbrev pub refuse : {A : Type 0} → Parser A
refuse i = Err (Unexpected, i)

-- stops: the next token opens one bracket too many
abbrev pub too_deep : {A : Type 0} → Parser A
too_deep i = Err (Nesting, i)

abbrev pub take_from : (Terminal → Bool) → Input → List Token → Outcome Token
take_from is i [] = Err (Unexpected, i)
take_from is i (t ∷ ts) = if is t.kind then Ok (t, past i t ts) else Err (Unexpected, i)

unfoldable pub take : (Terminal → Bool) → Parser Token
take is i = take_from is i i.ahead

abbrev pub mark : (Terminal → Bool) → Parser (Unit {0})
mark is = (λ _. tt) <&> take is

-- the first parser if the terminal of the next token passes, else the second
abbrev pub when : {A : Type 0} → (Terminal → Bool) → Parser A → Parser A → Parser A
when is p q i = if next_is is (next i) then p i else q i

abbrev pub try : {A : Type 0} → (Terminal → Bool) → Parser A → Parser (Option A)
try is p = when is (Some <&> p) (pure None)

-- this parser, unless it is forbidden
abbrev pub unless : {A : Type 0} → Bool → Parser A → Parser A
unless true p = refuse
unless false p = p

-- accepts a tree that passes
abbrev pub checked : {A : Type 0} → (A → Bool) → A → Parser A
checked passes x o = if passes x then Ok (x, o) else Err (Unexpected, o)

abbrev pub such_that : {A : Type 0} → (A → Bool) → Parser A → Parser A
such_that passes p i = and_then (p i) (checked passes)

-- one after another while the next token begins one, at most this many; the number must be at least that of the tokens ahead
unfoldable pub many_within : {A : Type 0} → (Terminal → Bool) → Parser A → ℕ → Parser (List A)
many_within begins p zero i = Ok ([], i)
many_within begins p (suc n) i = if next_is begins (next i) then and_then (p i) (λ x m. and_then (many_within begins p n m) (λ xs o. Ok (x ∷ xs, o))) else Ok ([], i)

unfoldable pub many : {A : Type 0} → (Terminal → Bool) → Parser A → Parser (List A)
many begins p i = many_within begins p (length i.ahead) i

unfoldable pub some : {A : Type 0} → (Terminal → Bool) → Parser A → Parser (List A)
some begins p = when begins (many begins p) refuse

abbrev pub placed : {P A : Type 0} → Meaning P → Parser A → Parser (Placed P A)
placed m p i = and_then (p i) (λ x o. Ok (record { it = x; place = place_between m i o }, o))

-- an opening bracket, where this many more may be open
abbrev pub opening_mark : (Terminal → Bool) → ℕ → Parser (Unit {0})
opening_mark is zero = too_deep
opening_mark is (suc n) = mark is

abbrev pub opening : (Terminal → Bool) → ℕ → Parser (Unit {0})
opening is n = when is (opening_mark is n) refuse

abbrev pub between : {A : Type 0} → (Terminal → Bool) → Parser A → (Terminal → Bool) → Parser A
between opening p closing = (λ x. x.1.0) <&> mark opening ⊙ p ⊙ mark closing

-- one more, after a mark
abbrev pub following : {A : Type 0} → (Terminal → Bool) → Parser A → Parser A
following is p = (λ x. x.1) <&> mark is ⊙ p

abbrev pub separated : {A : Type 0} → (Terminal → Bool) → Parser A → Parser (List A)
separated is p = (λ x. x.1.0 ∷ x.1.1) <&> try is (mark is) ⊙ p ⊙ many is (following is p)

-- ---- all tokens

abbrev pub ended_at : {A : Type 0} → A → Input → Option Terminal → Outcome A
ended_at x o None = Ok (x, o)
ended_at x o (Some kind) = Err (Unexpected, o)

abbrev pub ended : {A : Type 0} → A → Parser A
ended x o = ended_at x o (next o)

unfoldable pub whole : {A : Type 0} → (ℕ → Parser A) → ℕ → Parser A
whole p n i = and_then (p n i) ended

-- ---- what the contract of a reading function ensures

-- The function answers as the parser does. At a stop, the input begins with the token at which the parser stops; if memory
-- ran out, nothing is stated.
abbrev pub Reads : {X A : Type 0} → (X → A) → Outcome A → Result X ParseError → Input → Type 0
Reads view outcome (Ok x) new = outcome ≡ Ok (view x, new)
Reads view outcome (Err e) new = e ≢ Memory → outcome ≡ Err (e, new)
