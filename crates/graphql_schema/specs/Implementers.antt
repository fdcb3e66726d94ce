-- Which types implement each interface (GraphQL, October 2021, section 3.7).
use Rattle.std.specs.Prelude.{ℕ, List, ◌&&◌, map, filter, Option, None, Some, if◌then◌else◌}
use Rattle.std.specs.List.{list_any}
use Rattle.graphql_names.specs.Placed.{Place}
use Rattle.schema_components.specs.Lists.{firsts}
use Rattle.schema_building.specs.in_schema_types.SchemaTree.{SchemaTree, same_kind}
use Rattle.schema_building.specs.in_schema_types.declared.type_kind.TypeKind.{TypeKind}
use Rattle.schema_building.specs.in_schema_types.declared.type_kind.TypeKind.TheVariants.{Object, Interface}
use Rattle.graphql_schema.specs.LookUps.{implements}

-- the names of the objects and of the interfaces that implement one interface
pub record ImplementersTree : Type 0 where
  pub objects : List (List ℕ)
  pub interfaces : List (List ℕ)

module _ (s : SchemaTree Place) (i : List ℕ) where
  -- the names of the types of kind k that list the interface i, each once, in the order of the schema's types
  abbrev pub naming_it : TypeKind → List (List ℕ)
  naming_it k = map (λ e. e.0) (firsts (λ e. e.0) (filter (λ e. same_kind e.1.kind k && implements s e.1 i) s.types))

  -- the implementers of the interface i; `None` if no type lists it
  abbrev pub implementers_in : Option ImplementersTree
  implementers_in = if list_any (λ e. implements s e.1 i) s.types then Some (record { objects = naming_it Object; interfaces = naming_it Interface }) else None
