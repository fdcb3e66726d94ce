-- The subtypes of an interface are its implementers (GraphQL, October 2021, section 3.7).
use Rattle.std.specs.Prelude.{◌≡◌, ℕ, Bool, true, false, ◌||◌, List, Option, is_some}
use Rattle.std.specs.Option.{option_map_or}
use Rattle.graphql_names.specs.Placed.{Place}
use Rattle.schema_components.specs.Lists.{is_among}
use Rattle.schema_building.specs.in_schema_types.SchemaTree.{SchemaTree}
use Rattle.schema_building.specs.in_schema_types.declared.type_kind.TypeKind.TheVariants.{Interface}
use Rattle.graphql_schema.specs.Implementers.{ImplementersTree, implementers_in}
use Rattle.graphql_schema.specs.LookUps.{type_of_kind, is_subtype}

-- whether the type t is one of these objects and interfaces, if there are any
abbrev pub is_implementer : Option ImplementersTree → List ℕ → Bool
is_implementer o t = option_map_or (λ x. is_among t x.objects || is_among t x.interfaces) o false

-- a type is a subtype of an interface i exactly when it is one of the implementers of i
abbrev pub SubtypesAreImplementers : SchemaTree Place → Type 0
SubtypesAreImplementers s = (i t : List ℕ) → is_some (type_of_kind s Interface i) ≡ true → is_subtype s i t ≡ is_implementer (implementers_in s i) t
