-- Texts of a grammar symbol, the limit of nesting, and the faults of a text that is not one, or nests too deep.
use Rattle.std.specs.Prelude.{ℕ, ◌<◌, ◌≤◌, List}
use Rattle.read_tokens.specs.Input.{Token, Ending}
use Rattle.read_tokens.specs.Lex.{LexesFront, Lex}
use Rattle.read_tokens.specs.Cursor.{EndsAs}
use Rattle.read_grammar.specs.Depth.{depth}
use Rattle.read_grammar.specs.Faults.{Symbol, Fault, Says}

-- The text consists of these tokens, and they are a text of the symbol, with this tree.
pub record HasTree {A : Type 0} (symbol : Symbol A) (text : List ℕ) (tree : A) : Type 0 where
  pub tokens : List Token
  pub lexed : Lex text tokens
  pub derived : symbol tokens tree

-- A prefix of the text consists of these tokens, and their brackets nest deeper than the limit.
pub record NestingBound (nesting : ℕ) (text : List ℕ) : Type 0 where
  pub tokens : List Token
  pub following : List ℕ
  pub lexed : LexesFront text tokens following
  pub above : nesting < depth tokens

-- The text has this tree, and the brackets of its tokens nest within the limit.
pub record ReadsWithin {A : Type 0} (symbol : Symbol A) (nesting : ℕ) (text : List ℕ) (tree : A) : Type 0 where
  pub reads : HasTree symbol text tree
  pub within : depth reads.tokens ≤ nesting

-- The text has these tokens and this ending, and the fault is due for them.
pub record IsDue {A : Type 0} (symbol : Symbol A) (nesting : ℕ) (text : List ℕ) (fault : Fault) : Type 0 where
  pub tokens : List Token
  pub ending : Ending
  pub lexed : EndsAs text tokens ending
  pub says : Says symbol tokens ending nesting fault
