-- Tests of the next token, and what is true of each.
use Rattle.std.proofs.Common.{◌≡◌, ℕ, zero, suc, Bool, true, false, cond, List, [], ◌∷◌, Option, Some, None, refl}
use Rattle.read_tokens.specs.declared.terminal.Terminal.{Terminal}
use Rattle.read_tokens.specs.declared.terminal.Terminal.TheVariants as k

abbrev pub Test : Type 0
Test = Option Terminal → Bool

abbrev pub also : Bool → Bool → Bool
also a b = cond a b false

abbrev pub any : Test
any next = true

abbrev pub either : Test → Test → Test
either f g next = cond (f next) true (g next)

-- what is of neither kind
abbrev pub neither : Test → Test → Test
neither f g next = cond (f next) false (cond (g next) false true)

-- nothing is next
abbrev pub at_end : Test
at_end None = true
at_end (Some kind) = false

abbrev pub every_of : List (Option Terminal) → Test → Bool
every_of [] f = true
every_of (next ∷ others) f = also (f next) (every_of others f)

abbrev all : List (Option Terminal)
all = None
    ∷ Some k.Bang
    ∷ Some k.Dollar
    ∷ Some k.Ampersand
    ∷ Some k.OpenParen
    ∷ Some k.CloseParen
    ∷ Some k.Spread
    ∷ Some k.Colon
    ∷ Some k.Equals
    ∷ Some k.At
    ∷ Some k.OpenBracket
    ∷ Some k.CloseBracket
    ∷ Some k.OpenBrace
    ∷ Some k.Pipe
    ∷ Some k.CloseBrace
    ∷ Some k.Int
    ∷ Some k.Float
    ∷ Some k.String
    ∷ Some k.BlockString
    ∷ Some k.Name
    ∷ Some k.Query
    ∷ Some k.Mutation
    ∷ Some k.Subscription
    ∷ Some k.Fragment
    ∷ Some k.On
    ∷ Some k.True
    ∷ Some k.False
    ∷ Some k.Null
    ∷ Some k.Extend
    ∷ Some k.Schema
    ∷ Some k.Scalar
    ∷ Some k.Type
    ∷ Some k.Interface
    ∷ Some k.Union
    ∷ Some k.Enum
    ∷ Some k.Input
    ∷ Some k.Directive
    ∷ Some k.Implements
    ∷ Some k.Repeatable
    ∷ Some k.Location
    ∷ []

abbrev pub every : Test → Bool
every f = every_of all f

both : (a b : Bool) → also a b ≡ true → (a ≡ true) × (b ≡ true)
both true b e = (refl, e)
both false b e = absurd cc

-- the one after `n` others, and the end if there are too few
abbrev nth : List (Option Terminal) → ℕ → Option Terminal
nth [] n = None
nth (next ∷ others) zero = next
nth (next ∷ others) (suc n) = nth others n

at_nth : (xs : List (Option Terminal)) (f : Test) → f None ≡ true → every_of xs f ≡ true → (n : ℕ) → f (nth xs n) ≡ true
at_nth [] f none h n = none
at_nth (x ∷ xs) f none h zero = (both (f x) (every_of xs f) h).0
at_nth (x ∷ xs) f none h (suc n) = at_nth xs f none (both (f x) (every_of xs f) h).1 n

at_place : (f : Test) → every f ≡ true → (n : ℕ) → f (nth all n) ≡ true
at_place f h n = at_nth all f (both (f None) _ h).0 h n

pub every_at : (f : Test) → every f ≡ true → (next : Option Terminal) → f next ≡ true
every_at f h None = at_place f h 0
every_at f h (Some k.Bang) = at_place f h 1
every_at f h (Some k.Dollar) = at_place f h 2
every_at f h (Some k.Ampersand) = at_place f h 3
every_at f h (Some k.OpenParen) = at_place f h 4
every_at f h (Some k.CloseParen) = at_place f h 5
every_at f h (Some k.Spread) = at_place f h 6
every_at f h (Some k.Colon) = at_place f h 7
every_at f h (Some k.Equals) = at_place f h 8
every_at f h (Some k.At) = at_place f h 9
every_at f h (Some k.OpenBracket) = at_place f h 10
every_at f h (Some k.CloseBracket) = at_place f h 11
every_at f h (Some k.OpenBrace) = at_place f h 12
every_at f h (Some k.Pipe) = at_place f h 13
every_at f h (Some k.CloseBrace) = at_place f h 14
every_at f h (Some k.Int) = at_place f h 15
every_at f h (Some k.Float) = at_place f h 16
every_at f h (Some k.String) = at_place f h 17
every_at f h (Some k.BlockString) = at_place f h 18
every_at f h (Some k.Name) = at_place f h 19
every_at f h (Some k.Query) = at_place f h 20
every_at f h (Some k.Mutation) = at_place f h 21
every_at f h (Some k.Subscription) = at_place f h 22
every_at f h (Some k.Fragment) = at_place f h 23
every_at f h (Some k.On) = at_place f h 24
every_at f h (Some k.True) = at_place f h 25
every_at f h (Some k.False) = at_place f h 26
every_at f h (Some k.Null) = at_place f h 27
every_at f h (Some k.Extend) = at_place f h 28
every_at f h (Some k.Schema) = at_place f h 29
every_at f h (Some k.Scalar) = at_place f h 30
every_at f h (Some k.Type) = at_place f h 31
every_at f h (Some k.Interface) = at_place f h 32
every_at f h (Some k.Union) = at_place f h 33
every_at f h (Some k.Enum) = at_place f h 34
every_at f h (Some k.Input) = at_place f h 35
every_at f h (Some k.Directive) = at_place f h 36
every_at f h (Some k.Implements) = at_place f h 37
every_at f h (Some k.Repeatable) = at_place f h 38
every_at f h (Some k.Location) = at_place f h 39

abbrev pub subset : Test → Test → Bool
subset f g = every (λ next. cond (f next) (g next) true)

abbrev pub apart : Test → Test → Bool
apart f g = every (λ next. cond (f next) (cond (g next) false true) true)

subset_by : (a b : Bool) → cond a b true ≡ true → a ≡ true → b ≡ true
subset_by true b e h = e
subset_by false b e h = absurd cc

pub from_subset : (f g : Test) → subset f g ≡ true → (next : Option Terminal) → f next ≡ true → g next ≡ true
from_subset f g h next e = subset_by (f next) (g next) (every_at (λ n. cond (f n) (g n) true) h next) e

apart_by : (a b : Bool) → cond a (cond b false true) true ≡ true → a ≡ true → b ≡ false
apart_by true true e h = absurd cc
apart_by true false e h = refl
apart_by false b e h = absurd cc

pub from_apart : (f g : Test) → apart f g ≡ true → (next : Option Terminal) → f next ≡ true → g next ≡ false
from_apart f g h next e = apart_by (f next) (g next) (every_at (λ n. cond (f n) (cond (g n) false true) true) h next) e

if_same : (t : Bool) → cond t t true ≡ true
if_same true = refl
if_same false = refl

if_any : (t : Bool) → cond t true true ≡ true
if_any true = refl
if_any false = refl

every_by : (xs : List (Option Terminal)) (f : Test) → ((next : Option Terminal) → f next ≡ true) → every_of xs f ≡ true
every_by [] f h = refl
every_by (x ∷ xs) f h = rw (h x) (every_by xs f h)

pub same_test : (f : Test) → subset f f ≡ true
same_test f = every_by all (λ next. cond (f next) (f next) true) (λ next. if_same (f next))

pub all_any : (f : Test) → subset f any ≡ true
all_any f = every_by all (λ next. cond (f next) true true) (λ next. if_any (f next))
