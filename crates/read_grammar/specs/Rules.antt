-- Rules of a grammar. A rule relates the input before it, the tree that it reads, and the input after it.
use Rattle.std.specs.Prelude.{◌≡◌, Bool, true, false, List, [], ◌∷◌, Option, Some, None, ◌⊎◌, if◌then◌else◌}
use Rattle.graphql_names.specs.Placed.{Placed}
use Rattle.read_tokens.specs.declared.terminal.Terminal.{Terminal}
use Rattle.read_tokens.specs.Input.{Token, Input, next, past}
use Rattle.read_grammar.specs.Meaning.{Meaning, place_between}

abbrev pub Rule : Type 0 → Type 1
Rule A = Input → A → Input → Type 0

-- one token whose terminal passes
abbrev pub one : (Terminal → Bool) → Rule Token
one is i t o = (is t.kind ≡ true) × ((ts : List Token) × (i.ahead ≡ t ∷ ts) × (o ≡ past i t ts))

-- one rule after the other
infixr 30 ◌·◌
abbrev pub ◌·◌ : {A B : Type 0} → Rule A → Rule B → Rule (A × B)
(r · s) i x o = (middle : Input) × r i x.0 middle × s middle x.1 o

-- a rule whose tree is what f makes of the tree read
infixr 20 ◌<$>◌
abbrev pub ◌<$>◌ : {A B : Type 0} → (A → B) → Rule A → Rule B
◌<$>◌ {A} f r i y o = (x : A) × r i x o × (y ≡ f x)

-- one token of which nothing is kept
abbrev pub mark : (Terminal → Bool) → Rule (Unit {0})
mark is = (λ _. tt) <$> one is

-- one rule or the other
infixr 10 ◌∣◌
abbrev pub ◌∣◌ : {A : Type 0} → Rule A → Rule A → Rule A
(r ∣ s) i x o = (r i x o) ⊎ (s i x o)

abbrev pub nothing : {A : Type 0} → Rule A
nothing i x o = ⊥

-- this rule, unless it is forbidden
abbrev pub unless : {A : Type 0} → Bool → Rule A → Rule A
unless true r = nothing
unless false r = r

-- a rule whose tree passes
abbrev pub such_that : {A : Type 0} → (A → Bool) → Rule A → Rule A
such_that passes r i x o = r i x o × (passes x ≡ true)

-- zero or one
abbrev pub optional : {A : Type 0} → Rule A → Rule (Option A)
optional r i None o = o ≡ i
optional r i (Some x) o = r i x o

-- there is no next token, or its terminal does not pass
abbrev pub lacks : (Terminal → Bool) → Option Terminal → Bool
lacks is None = true
lacks is (Some kind) = if is kind then false else true

-- zero or one; if it is left out, there is no next token, or its terminal does not pass
abbrev pub optional_unless : {A : Type 0} → (Terminal → Bool) → Rule A → Rule (Option A)
optional_unless is r i None o = (o ≡ i) × (lacks is (next i) ≡ true)
optional_unless is r i (Some x) o = r i x o

-- zero or more
abbrev pub many : {A : Type 0} → Rule A → Rule (List A)
many r i [] o = o ≡ i
many r i (x ∷ xs) o = (middle : Input) × r i x middle × many r middle xs o

-- one or more
abbrev pub some : {A : Type 0} → Rule A → Rule (List A)
some r i [] o = ⊥
some r i (x ∷ xs) o = (middle : Input) × r i x middle × many r middle xs o

-- between two tokens
abbrev pub between : {A : Type 0} → (Terminal → Bool) → Rule A → (Terminal → Bool) → Rule A
between opening r closing = (λ x. x.1.0) <$> mark opening · r · mark closing

-- one or more with a mark between each two, and optionally one before the first
abbrev pub separated : {A : Type 0} → (Terminal → Bool) → Rule A → Rule (List A)
separated is r = (λ x. x.1.0 ∷ x.1.1) <$> optional (mark is) · r · many ((λ x. x.1) <$> mark is · r)

-- a rule whose tree has its place
abbrev pub placed : {P A : Type 0} → Meaning P → Rule A → Rule (Placed P A)
placed m r i x o = r i x.it o × (x.place ≡ place_between m i o)
