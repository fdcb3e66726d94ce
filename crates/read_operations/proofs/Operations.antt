-- Which form of an operation is read, by the next token.
use Rattle.std.proofs.Common.{◌≡◌, ℕ, true, false, refl}
use Rattle.read_tokens.specs.Input.{Input, next}
use Rattle.read_grammar.specs.Meaning.{Meaning}
use Rattle.read_grammar.specs.Kinds.{next_is, is_open_brace}
use Rattle.read_grammar.specs.OperationReading as o
use Rattle.read_operations.specs.OperationSteps.{short_operation, full_operation}

module _ {P : Type 0} (m : Meaning P) where
  pub operation_short : (n : ℕ) (i : Input) → next_is is_open_brace (next i) ≡ true → o.operation_definition m n i ≡ short_operation m n i
  unfolding o.operation_definition
  operation_short n i h = rw h refl

  pub operation_full : (n : ℕ) (i : Input) → next_is is_open_brace (next i) ≡ false → o.operation_definition m n i ≡ full_operation m n i
  unfolding o.operation_definition
  operation_full n i h = rw h refl
