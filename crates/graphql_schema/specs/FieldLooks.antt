-- The fields of a type by name, without places: all that typing and rules read of them (GraphQL, October 2021, sections 2.5, 4.1 and 4.2).
use Rattle.std.specs.Prelude.{◌≡◌, ℕ, Bool, false, ◌&&◌, List, Option, option_and_then}
use Rattle.std.specs.Option.{option_map, option_map_or, option_or}
use Rattle.std.specs.Str.{bytes_eq}
use Rattle.graphql_names.specs.Placed.{Place}
use Rattle.tree_type_members.specs.TypeSystemTree.{FieldDefinitionTree, unplaced_field_definition}
use Rattle.schema_building.specs.in_built_in.MetaFields.{meta_field_of}
use Rattle.schema_building.specs.in_schema_types.SchemaTree.{SchemaTree}
use Rattle.schema_building.specs.in_schema_types.Plain.{plain}
use Rattle.schema_building.specs.in_schema_types.Looks.{Looks, TypeLooks, looks}
use Rattle.schema_components.specs.Given.{plain_given}
use Rattle.graphql_schema.specs.LookUps.{is_composite_kind}
use Rattle.graphql_schema.specs.LookUps as look_up

module _ (l : Looks) where
  -- whether the schema definition names this type as the query root
  abbrev pub is_query_root : List ℕ → Bool
  is_query_root n = option_map_or (λ root. bytes_eq n root) l.definition.query false

  -- the field named m of the type t, which is listed under the name n: an explicit field comes before a meta-field
  abbrev pub field_on : List ℕ → TypeLooks → List ℕ → Option (FieldDefinitionTree (Unit {0}))
  field_on n t m = option_or (t.field m) (option_map (λ f. unplaced_field_definition f.it) (meta_field_of (is_composite_kind t.kind) (is_composite_kind t.kind && is_query_root n) m))

  -- the field named m of the type named n
  abbrev pub field_named : List ℕ → List ℕ → Option (FieldDefinitionTree (Unit {0}))
  field_named n m = option_and_then (λ t. field_on n t m) (l.type_named n)

-- each lookup of a field in a schema gives, without place and origin, what `field_named` gives for the plain schema
abbrev pub FieldsArePlain : SchemaTree Place → Type 0
FieldsArePlain s = (n m : List ℕ) → option_map (plain_given unplaced_field_definition) (look_up.field_named s n m) ≡ field_named (looks (plain s)) n m
