-- What contracts see of an `IntValue` and a `FloatValue`.
use Rattle.std.specs.Prelude.{ℕ, List}
use Rattle.tree_literals.specs.NumberSyntax.{IsIntValue, IsFloatValue}

-- the text of an integer, which is one Int token
pub record IntText : Type 0 where
  pub text : List ℕ
  pub valid : IsIntValue text

-- the text of a float, which is one Float token
pub record FloatText : Type 0 where
  pub text : List ℕ
  pub valid : IsFloatValue text
