-- The values of enums and the fields of input objects have names. This holds of every schema in memory, and is a premise of the law of
-- literals.
use Rattle.std.specs.Prelude.{◌≡◌, ℕ, true, List, is_some}
use Rattle.graphql_names.specs.NameSyntax.{is_name}
use Rattle.rule_definitions.specs.Words.{IfPresent}
use Rattle.rule_definitions.specs.Judged.{Judged}

-- the values of enums and the fields of input objects have names
pub record HasNames (s : Judged) : Type 0 where
  pub values : (n : List ℕ) → IfPresent (s.type_named n) (λ t. (m : List ℕ) → is_some (t.value m) ≡ true → is_name m ≡ true)
  pub inputs : (n : List ℕ) → IfPresent (s.type_named n) (λ t. (m : List ℕ) → is_some (t.input m) ≡ true → is_name m ≡ true)
