-- What is printed reads as what it was printed from.
use Rattle.std.specs.Prelude.{◌≡◌, ◌↔◌, ℕ, Bool, true, List}
use Rattle.graphql_names.specs.Placed.{Place, Placed}
use Rattle.read_operations.specs.in_tokens.Input.{Token}
use Rattle.read_operations.specs.in_tokens.Lex.{Lex}
use Rattle.read_operations.specs.in_grammar.Faults.{Symbol}

-- The text's tokens are a text of the symbol, with a tree that is the printed one, ignoring places, and with no other tree.
pub record ReadsAlone {A B : Type 0} (symbol : Symbol A) (unplaced : A → B) (text : List ℕ) (printed : B) : Type 0 where
  pub tokens : List Token
  pub lexed : Lex text tokens
  pub tree : A
  pub derived : symbol tokens tree
  pub same : unplaced tree ≡ printed
  pub alone : (others : List Token) (other : A) → Lex text others → symbol others other → other ≡ tree

-- Two trees that pass both tests have the same text exactly when they are equal, ignoring places.
abbrev pub TextTells : {B : Type 0} → (A : Type 0) → (A → Bool) → (A → Bool) → (A → List ℕ) → (A → B) → Type 0
TextTells A formed writable text unplaced =
    (a : A) → (b : A) → formed a ≡ true → formed b ≡ true → writable a ≡ true → writable b ≡ true → (text a ≡ text b) ↔ (unplaced a ≡ unplaced b)

-- The same for nodes, which are trees with their places.
abbrev pub NodeTextTells : {B : Type 0} → (A : Type 0) → (Placed Place A → Bool) → (A → Bool) → (A → List ℕ) → (A → B) → Type 0
NodeTextTells A formed writable text unplaced = TextTells (Placed Place A) formed (λ n. writable n.it) (λ n. text n.it) (λ n. unplaced n.it)
