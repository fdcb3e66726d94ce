-- What refers and is referred to in a schema.
use Rattle.std.specs.Prelude.{ℕ, List}

-- a directive, or a type
pub data Thing : Type 0 where
  ADirective : (name : List ℕ) → Thing
  AType : (name : List ℕ) → Thing
