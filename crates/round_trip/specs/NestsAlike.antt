-- Tokens nest as deep as their tree, and tokens of trees that are equal, ignoring places, nest equally deep.
use Rattle.std.specs.Prelude.{◌≡◌, ℕ, List}
use Rattle.read_operations.specs.in_tokens.Input.{Token}
use Rattle.read_operations.specs.in_tokens.Lex.{Lex}
use Rattle.read_operations.specs.in_grammar.Depth.{depth}
use Rattle.read_operations.specs.in_grammar.Faults.{Symbol}

-- The brackets of tokens of the symbol nest as deep as `tree_depth` of their tree.
abbrev pub NestAsTrees : {A : Type 0} → Symbol A → (A → ℕ) → Type 0
NestAsTrees {A} symbol tree_depth = (tokens : List Token) (tree : A) → symbol tokens tree → depth tokens ≡ tree_depth tree

-- The brackets of tokens of the two symbols nest equally deep if their trees are equal, ignoring places.
abbrev pub NestAlike : {A B : Type 0} → (A → B) → Symbol A → Symbol A → Type 0
NestAlike {A} unplaced symbol another =
    (tokens others : List Token) (tree other : A) → symbol tokens tree → another others other → unplaced tree ≡ unplaced other → depth tokens ≡ depth others

-- The text consists of tokens whose brackets nest exactly this deep.
abbrev pub HasDepth : List ℕ → ℕ → Type 0
HasDepth text deep = (tokens : List Token) × Lex text tokens × (depth tokens ≡ deep)
