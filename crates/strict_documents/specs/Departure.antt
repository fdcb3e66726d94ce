-- One use of what the checker lets pass and the specification does not: where it is, what it is, and the name that its text mentions.
use Rattle.std.specs.Prelude.{ℕ, List}
use Rattle.strict_documents.specs.declared.departure.DepartureKind.{DepartureKind}

-- the name is empty if the text mentions none
pub record Departure (P : Type 0) : Type 0 where
  pub place : P
  pub kind : DepartureKind
  pub name : List ℕ
