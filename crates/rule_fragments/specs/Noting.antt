-- Private: leads to `CanBe`. What is noted of each type of a schema: names of objects under names of types.
use Rattle.std.specs.Prelude.{ℕ, Bool, false, List, [], ◌∷◌, ◌++◌, map, flat_map, if◌then◌else◌}
use Rattle.std.specs.Option.{option_map_or}
use Rattle.graphql_names.specs.Placed.{Place}
use Rattle.schema_components.specs.Given.{given_name}
use Rattle.schema_types.specs.SchemaTree.{SchemaType, SchemaTree, same_kind}
use Rattle.schema_types.specs.Addresses.{type_at}
use Rattle.schema_types.specs.declared.type_kind.TypeKind.TheVariants as kind

abbrev pub Notes : Type 0
Notes = List (List ℕ × List ℕ)

-- an object under the names of its interfaces; and under its own name too
abbrev pub interface_notes : List ℕ → List (List ℕ) → Notes
interface_notes n interfaces = flat_map (λ i. (i, n) ∷ []) interfaces

abbrev pub object_notes : List ℕ → List (List ℕ) → Notes
object_notes n interfaces = (n, n) ∷ interface_notes n interfaces

-- a type under its name and those of its interfaces, if it is an object; nothing otherwise
abbrev pub own_notes : List ℕ × SchemaType Place → Notes
own_notes e = if same_kind e.1.kind kind.Object then object_notes e.0 (map given_name e.1.interfaces) else []

module _ (s : SchemaTree Place) where
  abbrev pub is_object : List ℕ → Bool
  is_object n = option_map_or (λ t. same_kind t.kind kind.Object) (type_at s n) false

  -- a member of a union under the name of the union, if the member is an object
  abbrev pub member_note : List ℕ → List ℕ → Notes
  member_note n m = if is_object m then (n, m) ∷ [] else []

  abbrev pub member_notes : List ℕ → List (List ℕ) → Notes
  member_notes n members = flat_map (member_note n) members

  -- what is noted of a type: itself, if it is an object, and the objects among its members
  abbrev pub type_notes : List ℕ × SchemaType Place → Notes
  type_notes e = own_notes e ++ member_notes e.0 (map given_name e.1.members)
