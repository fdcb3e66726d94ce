-- What is written of a schema, and in which order.
use Rattle.std.specs.Prelude.{ℕ, Bool, true, false, not, ◌&&◌, ◌==◌, if◌then◌else◌, List, [], ◌∷◌, ◌++◌, map, Option, None, Some, is_none, is_some, option_to_list}
use Rattle.std.specs.List.{flat_map, filter, find}
use Rattle.std.specs.Option.{option_map_or}
use Rattle.std.specs.Str.{bytes_eq}
use Rattle.graphql_names.specs.Places.{is_built_in}
use Rattle.graphql_names.specs.Placed.{Placed, Place, Text}
use Rattle.schema_components.specs.in_operations.OperationQueries.{default_root_name}
use Rattle.schema_components.specs.in_directives.DirectiveTree.{DirectiveDefinitionTree}
use Rattle.schema_components.specs.in_operations.in_directives.declared.operation_type.OperationType.{OperationType}
use Rattle.schema_components.specs.in_operations.in_directives.declared.operation_type.OperationType.TheVariants as operation
use Rattle.spec_tree.specs.in_type_members.TypeSystemTree.{RootOperationTree, SchemaParts}
use Rattle.spec_tree.specs.DefinitionTree.{DefinitionTree, DirectiveDefinition, Schema, ExtendSchema}
use Rattle.schema_components.specs.Names.{Entries}
use Rattle.schema_components.specs.Lists.{firsts}
use Rattle.schema_components.specs.Given.{Given, ExtensionTree}
use Rattle.schema_types.specs.SchemaTree.{SchemaType, SchemaRoots, SchemaTree, same_kind}
use Rattle.schema_types.specs.TypeParts.{TypeParts, definition_by, extension_by}
use Rattle.schema_types.specs.declared.type_kind.TypeKind.TheVariants.{Object}

abbrev pub is_empty : {A : Type 0} → List A → Bool
is_empty [] = true
is_empty (x ∷ xs) = false

module _ {P : Type 0} where
  -- these extensions, each once, in the order of first appearance
  abbrev pub each_once : List (ExtensionTree P) → List (ExtensionTree P)
  each_once = firsts (λ e. e.number ∷ [])

  -- the extensions that gave these, in order
  abbrev pub givers : {A : Type 0} → List (Given P A) → List (ExtensionTree P)
  givers gs = flat_map (λ g. option_to_list g.extension) gs

  abbrev pub entries_givers : {A : Type 0} → Entries (Given P A) → List (ExtensionTree P)
  entries_givers es = flat_map (λ e. option_to_list e.1.extension) es

  -- whether both are the definition, or both are extensions of the same number
  abbrev pub same_giver : Option (ExtensionTree P) → Option (ExtensionTree P) → Bool
  same_giver None None = true
  same_giver (Some e) (Some f) = e.number == f.number
  same_giver _ _ = false

  -- what the definition or that extension gave
  abbrev pub given_by : {A : Type 0} → Option (ExtensionTree P) → List (Given P A) → List A
  given_by giver gs = map (λ g. g.it) (filter (λ g. same_giver giver g.extension) gs)

  abbrev pub entries_given_by : {A : Type 0} → Option (ExtensionTree P) → Entries (Given P A) → List A
  entries_given_by giver es = map (λ e. e.1.it) (filter (λ e. same_giver giver e.1.extension) es)

  -- ---- types

  -- the extensions of a type, in the order in which they first appear among directives, then interfaces, then fields, members, values or input fields
  abbrev pub extensions_of_type : SchemaType P → List (ExtensionTree P)
  extensions_of_type t = each_once (givers t.directives ++ givers t.interfaces ++ entries_givers t.fields ++ givers t.members ++ entries_givers t.values ++ entries_givers t.inputs)

  -- the components of a type that the definition or that extension gave, in the schema's order
  abbrev pub type_parts_given_by : Option (ExtensionTree P) → SchemaType P → TypeParts P
  type_parts_given_by giver t = record {
    kind = t.kind;
    name = t.name;
    directives = given_by giver t.directives;
    interfaces = given_by giver t.interfaces;
    fields = entries_given_by giver t.fields;
    members = given_by giver t.members;
    values = entries_given_by giver t.values;
    inputs = entries_given_by giver t.inputs;
  }

  abbrev pub written_definition : SchemaType P → DefinitionTree P
  written_definition t = definition_by t.kind t.place t.description (type_parts_given_by None t)

  abbrev pub written_extensions : SchemaType P → List (DefinitionTree P)
  written_extensions t = map (λ e. extension_by t.kind e.place (type_parts_given_by (Some e) t)) (extensions_of_type t)

  -- ---- the schema definition

  -- a root as it is written, if the definition or that extension gave it; the pair of operation and name has no place that was kept
  abbrev pub root_given_by : P → Option (ExtensionTree P) → OperationType → Option (Given P (Text P)) → List (Placed P (RootOperationTree P))
  root_given_by nowhere giver operation root = map (λ name. record { it = record { operation_type = operation; name = name }; place = nowhere }) (given_by giver (option_to_list root))

  -- the directives and roots that the definition or that extension gave, roots in the order query, mutation, subscription
  abbrev pub schema_parts_given_by : P → Option (ExtensionTree P) → SchemaRoots P → SchemaParts P
  schema_parts_given_by nowhere giver s = record {
    directives = given_by giver s.directives;
    roots = root_given_by nowhere giver operation.Query s.query ++ root_given_by nowhere giver operation.Mutation s.mutation ++ root_given_by nowhere giver operation.Subscription s.subscription;
  }

  abbrev pub extensions_of_schema : SchemaRoots P → List (ExtensionTree P)
  extensions_of_schema s = each_once (givers s.directives ++ givers (option_to_list s.query) ++ givers (option_to_list s.mutation) ++ givers (option_to_list s.subscription))

  abbrev pub is_object_named : Entries (SchemaType P) → List ℕ → Bool
  is_object_named types name = option_map_or (λ e. same_kind e.1.kind Object) (find (λ e. bytes_eq name e.0) types) false

  -- whether the root is the implicit one: the object with the default name, or none if there is no such object (section 3.3.1)
  abbrev pub is_implicit_root : Entries (SchemaType P) → OperationType → Option (Given P (Text P)) → Bool
  is_implicit_root types operation None = not (is_object_named types (default_root_name operation))
  is_implicit_root types operation (Some g) = bytes_eq g.it.it (default_root_name operation) && is_object_named types (default_root_name operation)

  -- whether the schema definition is left out: it has no description, directives or extensions, its roots are the implicit ones, and one is for queries
  abbrev pub is_left_out : SchemaTree P → Bool
  is_left_out s =
      is_none s.definition.description && is_empty s.definition.directives && is_empty (extensions_of_schema s.definition)
      && is_implicit_root s.types operation.Query s.definition.query && is_implicit_root s.types operation.Mutation s.definition.mutation
      && is_implicit_root s.types operation.Subscription s.definition.subscription && is_some s.definition.query

abbrev pub written_schema : SchemaTree Place → List (DefinitionTree Place)
written_schema s =
    if is_left_out s then [] else
    Schema s.definition.place s.definition.description (schema_parts_given_by None None s.definition)
    ∷ map (λ e. ExtendSchema e.place (schema_parts_given_by None (Some e) s.definition)) (extensions_of_schema s.definition)

-- a directive definition, if it is not built in
abbrev pub written_directive : List ℕ × Placed Place (DirectiveDefinitionTree Place) → List (DefinitionTree Place)
written_directive e = if is_built_in e.1.place then [] else DirectiveDefinition e.1.place e.1.it ∷ []

-- the definition of a type, if it is not built in, and then its extensions
abbrev pub written_type : List ℕ × SchemaType Place → List (DefinitionTree Place)
written_type e = (if is_built_in e.1.place then [] else written_definition e.1 ∷ []) ++ written_extensions e.1

-- what is written of a schema
abbrev pub written : SchemaTree Place → List (DefinitionTree Place)
written s = written_schema s ++ flat_map written_directive s.directives ++ flat_map written_type s.types
