-- Private: leads to `implementers_in`. Implementers, noted one at a time.
use Rattle.std.specs.Prelude.{ℕ, Bool, List, [], ◌∷◌, ◌++◌, map, Option, None, Some, unwrap_or, fold, if◌then◌else◌}
use Rattle.std.specs.List.{flat_map}
use Rattle.std.specs.Str.{bytes_eq}
use Rattle.graphql_names.specs.Placed.{Place, Text}
use Rattle.schema_components.specs.Lists.{is_among}
use Rattle.schema_components.specs.Given.{Given, given_name}
use Rattle.schema_building.specs.in_schema_types.SchemaTree.{SchemaType, SchemaTree, same_kind}
use Rattle.schema_building.specs.in_schema_types.declared.type_kind.TypeKind.TheVariants.{Object}
use Rattle.graphql_schema.specs.Implementers.{ImplementersTree}

-- one name in an `implements` list: the interface, whether the type with the list is an object, and the name of that type
pub record Naming : Type 0 where
  pub interface : List ℕ
  pub is_object : Bool
  pub type : List ℕ

abbrev pub nobody : ImplementersTree
nobody = record { objects = []; interfaces = [] }

abbrev pub with_name : List ℕ → List (List ℕ) → List (List ℕ)
with_name n ns = if is_among n ns then ns else ns ++ n ∷ []

-- the implementers of an interface, with one more type
abbrev pub and_type : Bool → List ℕ → ImplementersTree → ImplementersTree
and_type is_object n t = if is_object then record t { objects = with_name n t.objects } else record t { interfaces = with_name n t.interfaces }

-- the implementers of the interface i after the naming x, given those before it
abbrev pub and_naming : List ℕ → Option ImplementersTree → Naming → Option ImplementersTree
and_naming i o x = if bytes_eq x.interface i then Some (and_type x.is_object x.type (unwrap_or o nobody)) else o

-- the implementers of the interface i in these namings; `None` if there are none
abbrev pub noted_in : List Naming → List ℕ → Option ImplementersTree
noted_in xs i = fold (and_naming i) None xs

abbrev pub naming : Bool → List ℕ → Given Place (Text Place) → Naming
naming is_object type g = record { interface = given_name g; is_object = is_object; type = type }

-- the namings of one type: the interfaces that it lists, in order; only objects and interfaces list any
abbrev pub namings_of : List ℕ × SchemaType Place → List Naming
namings_of e = map (naming (same_kind e.1.kind Object) e.0) e.1.interfaces

-- the namings of all types of a schema, in the order of the types
abbrev pub namings : SchemaTree Place → List Naming
namings s = flat_map namings_of s.types
