-- Implementing is a strict order on interfaces (GraphQL, October 2021, sections 3.6 and 3.7).
use Rattle.std.specs.Prelude.{◌≡◌, ℕ, true, List}
use Rattle.rule_definitions.specs.in_schema_types.declared.type_kind.TypeKind.TheVariants as kind
use Rattle.rule_definitions.specs.Words.{Present}
use Rattle.rule_definitions.specs.Judged.{Judged}

module _ (s : Judged) where
  abbrev pub IsInterface : List ℕ → Type 0
  IsInterface n = Present (s.type_named n) (λ t. t.kind ≡ kind.Interface)

  -- the type n, an object or an interface, names i among its interfaces
  abbrev pub Implements : List ℕ → List ℕ → Type 0
  Implements n i = Present (s.type_named n) (λ t. t.implements i ≡ true)

-- What is implemented is an interface, no type implements itself, and a type that implements an interface also implements
-- what that interface implements.
pub record ImplementsInOrder (s : Judged) : Type 0 where
  pub interfaces : (n i : List ℕ) → Implements s n i → IsInterface s i
  pub irreflexive : (n : List ℕ) → Implements s n n → ⊥
  pub transitive : (n i k : List ℕ) → Implements s n i → Implements s i k → Implements s n k
