-- The object types that values of each type can be (GetPossibleTypes of GraphQL, October 2021, section 5.5.2.3), as contracts see them.
use Rattle.std.specs.Prelude.{◌↔◌, ℕ, List, [], Option, IfSome, Contains}
use Rattle.std.specs.Option.{option_map_or}
use Rattle.schema_components.specs.Names.{Entries}
use Rattle.schema_types.specs.Addresses.{under}
use Rattle.rule_definitions.specs.Judged.{Judged}
use Rattle.rule_document_definitions.specs.PossibleTypes.{CanBe}

-- what contracts see of possible types: under the name of each type the names of the objects that its values can be
abbrev pub ObjectsOfTypes : Type 0
ObjectsOfTypes = Entries (List (List ℕ))

-- the objects of the type of that name
abbrev pub objects_of : ObjectsOfTypes → List ℕ → List (List ℕ)
objects_of p n = option_map_or (λ objects. objects) (under n p) []

-- under each name are exactly the objects that values of the type of that name can be
abbrev pub ArePossible : Judged → ObjectsOfTypes → Type 0
ArePossible s p = (n object : List ℕ) → Contains (objects_of p n) object ↔ CanBe s n object

-- the same for possible types that may not be found yet
abbrev pub ArePossibleIfFound : Judged → Option ObjectsOfTypes → Type 0
ArePossibleIfFound s found = IfSome found (ArePossible s)
