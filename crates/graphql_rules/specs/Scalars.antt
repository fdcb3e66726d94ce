-- Which built-in scalars something refers to (GraphQL, October 2021, section 3.5).
use Rattle.std.specs.Prelude.{◌≡◌, ℕ, true, List, Contains, ◌↔◌, ◌⊎◌, codes}
use Rattle.rule_definitions.specs.Names.{scalar_names}
use Rattle.graphql_rules.specs.declared.scalars.BuiltInScalars.{BuiltInScalars}

-- n is one of the five, and it is noted
abbrev pub IsNoted : BuiltInScalars → List ℕ → Type 0
IsNoted s n =
    ((n ≡ codes "Int") × (s.int ≡ true)) ⊎ (((n ≡ codes "Float") × (s.float ≡ true)) ⊎ (((n ≡ codes "String") × (s.string ≡ true))
    ⊎ (((n ≡ codes "Boolean") × (s.boolean ≡ true)) ⊎ ((n ≡ codes "ID") × (s.id ≡ true)))))

-- those that were noted before, and this name if it is one of the five
abbrev pub Notes : BuiltInScalars → BuiltInScalars → List ℕ → Type 0
Notes old new name = (n : List ℕ) → IsNoted new n ↔ (IsNoted old n ⊎ (Contains scalar_names n × (n ≡ name)))
