-- What lookups in a schema return (GraphQL, October 2021, sections 2.5, 3.4.2, 3.7, 3.8, 4.1 and 4.2).
use Rattle.std.specs.Prelude.{◌≡◌, ℕ, Bool, false, ◌&&◌, ◌||◌, List, map, Option, None, Some, option_and_then, if◌then◌else◌}
use Rattle.std.specs.Borrow.{Bor}
use Rattle.std.specs.Option.{option_map, option_map_or, option_or}
use Rattle.std.specs.Str.{bytes_eq}
use Rattle.graphql_names.specs.Placed.{Placed, Place}
use Rattle.tree_literals.specs.TypeTree.{TypeTree}
use Rattle.tree_literals.specs.TypeQueries.{inner_name}
use Rattle.tree_type_members.specs.TypeSystemTree.{FieldDefinitionTree, field_definition_tree}
use Rattle.tree_type_members.specs.declared.field_definition.FieldDefinition.{FieldDefinition}
use Rattle.schema_components.specs.Lists.{is_among}
use Rattle.schema_components.specs.Given.{Given, given_name, component_tree}
use Rattle.schema_components.specs.declared.component.Component.{Component}
use Rattle.schema_building.specs.in_schema_types.SchemaTree.{SchemaType, SchemaTree, same_kind}
use Rattle.schema_building.specs.in_schema_types.Addresses.{under, type_at, root_at}
use Rattle.schema_building.specs.in_schema_types.TypeView.{extended_type}
use Rattle.schema_building.specs.in_schema_types.declared.type_kind.TypeKind.{TypeKind}
use Rattle.schema_building.specs.in_schema_types.declared.type_kind.TypeKind.TheVariants.{Object, Interface, Union}
use Rattle.tree_directives.specs.declared.operation_type.OperationType.TheVariants.{Query}
use Rattle.schema_building.specs.in_built_in.MetaFields.{meta_field_of}
use Rattle.graphql_schema.specs.MetaField.{by_definition}
use Rattle.graphql_schema.specs.declared.field_lookup.FieldLookupError.{FieldLookupError}
use Rattle.graphql_schema.specs.declared.field_lookup.FieldLookupError.TheVariants.{NoSuchType, NoSuchField}

-- composite types: objects, interfaces and unions (section 2.5)
abbrev pub is_composite_kind : TypeKind → Bool
is_composite_kind k = same_kind k Object || same_kind k Interface || same_kind k Union

module _ (s : SchemaTree Place) where
  -- the type named n, if it is of kind k
  abbrev pub type_of_kind : TypeKind → List ℕ → Option (SchemaType Place)
  type_of_kind k n = option_and_then (λ t. if same_kind t.kind k then Some t else None) (type_at s n)

  -- the explicit field named m of the type named n; only objects and interfaces have any
  abbrev pub explicit_field : List ℕ → List ℕ → Option (Given Place (Placed Place (FieldDefinitionTree Place)))
  explicit_field n m = option_and_then (λ t. under m t.fields) (type_at s n)

  -- whether the schema definition names this type as the query root, whatever its kind
  abbrev pub is_query_root : List ℕ → Bool
  is_query_root n = option_map_or (λ root. bytes_eq n root.it) (root_at s Query) false

  -- the meta-field named m of the type t, which is listed under the name n; only composite types have any (sections 4.1 and 4.2)
  abbrev pub meta_field_on : List ℕ → SchemaType Place → List ℕ → Option (Given Place (Placed Place (FieldDefinitionTree Place)))
  meta_field_on n t m = option_map by_definition (meta_field_of (is_composite_kind t.kind) (is_composite_kind t.kind && is_query_root n) m)

  abbrev pub meta_field : List ℕ → List ℕ → Option (Given Place (Placed Place (FieldDefinitionTree Place)))
  meta_field n m = option_and_then (λ t. meta_field_on n t m) (type_at s n)

  -- the field named m of the type t, which is listed under the name n: an explicit field comes before a meta-field
  abbrev pub field_on : List ℕ → SchemaType Place → List ℕ → Option (Given Place (Placed Place (FieldDefinitionTree Place)))
  field_on n t m = option_or (under m t.fields) (meta_field_on n t m)

  -- `lent` is a borrow of that field, `None` if there is no such field
  abbrev pub IsFieldOn : List ℕ → SchemaType Place → List ℕ → Option (Bor (Component FieldDefinition)) → Type 0
  IsFieldOn n t m lent = option_map (λ f. component_tree field_definition_tree f.now) lent ≡ field_on n t m

  -- the field named m of the type named n: the explicit one, or else the meta-field
  abbrev pub field_named : List ℕ → List ℕ → Option (Given Place (Placed Place (FieldDefinitionTree Place)))
  field_named n m = option_or (explicit_field n m) (meta_field n m)

  -- f is the field named m of the type named n
  abbrev pub IsFieldNamed : List ℕ → List ℕ → Given Place (Placed Place (FieldDefinitionTree Place)) → Type 0
  IsFieldNamed n m f = field_named n m ≡ Some f

  -- why there is no such field: no type is named n; or the error has the type named n, with that name, and it has no field named m
  abbrev pub FieldIsMissing : List ℕ → List ℕ → FieldLookupError → Type 0
  FieldIsMissing n m NoSuchType = type_at s n ≡ None
  FieldIsMissing n m (NoSuchField name type) = (name.now.text ≡ n) × ((type_at s n ≡ Some (extended_type type.now)) × (field_named n m ≡ None))

  -- whether the type lists the name among its interfaces; only objects and interfaces list any
  abbrev pub implements : SchemaType Place → List ℕ → Bool
  implements t i = is_among i (map given_name t.interfaces)

  -- whether t is the name of a member of the union n, or of a type that lists the interface n among its interfaces (sections 3.7 and 3.8)
  abbrev pub is_subtype : List ℕ → List ℕ → Bool
  is_subtype n t = option_map_or (λ a. (same_kind a.kind Union && is_among t (map given_name a.members))
      || (same_kind a.kind Interface && option_map_or (λ b. implements b n) (type_at s t) false)) (type_at s n) false

  -- whether the type named inside a type reference exists and its kind passes the test
  abbrev pub inner_kind_is : (TypeKind → Bool) → TypeTree Place → Bool
  inner_kind_is test ty = option_map_or (λ t. test t.kind) (type_at s (inner_name ty).it) false
