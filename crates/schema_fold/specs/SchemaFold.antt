-- The schema definition of a list of definitions (GraphQL, October 2021, section 3.3).
use Rattle.std.specs.Prelude.{ℕ, Bool, false, ◌||◌, List, [], ◌∷◌, ◌++◌, Option, None, Some, if◌then◌else◌, is_some, slice_get, option_to_list}
use Rattle.std.specs.List.{flat_map, find}
use Rattle.std.specs.Option.{option_map, option_map_or}
use Rattle.std.specs.Str.{bytes_eq}
use Rattle.graphql_names.specs.Placed.{Placed, Place, Text}
use Rattle.schema_types.specs.in_operations.OperationQueries.{operation_keyword, default_root_name}
use Rattle.tree_directives.specs.declared.operation_type.OperationType.{OperationType}
use Rattle.tree_directives.specs.declared.operation_type.OperationType.TheVariants as operation
use Rattle.schema_types.specs.in_type_members.TypeSystemTree.{RootOperationTree, SchemaParts}
use Rattle.tree_definitions.specs.DefinitionTree.{DefinitionTree, Schema, ExtendSchema}
use Rattle.schema_types.specs.in_components.Given.{Given}
use Rattle.schema_types.specs.SchemaTree.{SchemaRoots, same_kind}
use Rattle.schema_types.specs.declared.type_kind.TypeKind.TheVariants.{Object}
use Rattle.schema_fold.specs.NumberedDefinition.{Definitions, NumberedDefinition, numbered, type_named}
use Rattle.schema_fold.specs.Components.{all_given}

abbrev pub Root : Type 0
Root = Placed Place (RootOperationTree Place)

-- what a schema definition gives, with its place
pub record SchemaGiver : Type 0 where
  pub place : Place
  pub description : Option (Text Place)
  pub parts : SchemaParts Place

abbrev pub schema_here : DefinitionTree Place → Option SchemaGiver
schema_here (Schema p d s) = Some (record { place = p; description = d; parts = s })
schema_here _ = None

abbrev pub schema_extension_here : DefinitionTree Place → Option (SchemaParts Place)
schema_extension_here (ExtendSchema p s) = Some s
schema_extension_here _ = None

-- the first schema definition
abbrev pub schema_definition_in : Definitions → Option SchemaGiver
schema_definition_in ds = slice_get (flat_map (λ d. option_to_list (schema_here d)) ds) 0

-- whether the type of that name is an object
abbrev pub is_object_in : Definitions → List ℕ → Bool
is_object_in ds name = option_map_or (λ t. same_kind t.parts.kind Object) (type_named name ds) false

-- without a schema definition the object with the default name is the root of an operation (section 3.3.1)
abbrev pub implicit_root : Definitions → OperationType → List Root
implicit_root ds operation =
    if is_object_in ds (default_root_name operation)
    then record { it = record { operation_type = operation; name = record { it = default_root_name operation; place = None } }; place = None } ∷ []
    else []

abbrev pub implicit_roots : Definitions → List Root
implicit_roots ds = implicit_root ds operation.Query ++ (implicit_root ds operation.Mutation ++ implicit_root ds operation.Subscription)

-- whether the schema is defined, so that its extensions apply: there is a schema definition, or some implicit root
abbrev pub schema_is_defined : Definitions → Bool
schema_is_defined ds = is_some (schema_definition_in ds) || is_some (slice_get (implicit_roots ds) 0)

-- what serves as the schema definition: the first one, or else no place, no description, no directives and the implicit roots
abbrev pub schema_base : Definitions → SchemaGiver
schema_base ds = option_map_or (λ s. s) (schema_definition_in ds) (record { place = None; description = None; parts = record { directives = []; roots = implicit_roots ds } })

abbrev pub extends_schema : NumberedDefinition → List (Given Place (SchemaParts Place))
extends_schema l = all_given l.extension (option_to_list (schema_extension_here l.definition))

-- all parts of the schema: those of `schema_base`, then those of the schema extensions by position, if the schema is defined
abbrev pub schema_parts_given : ℕ → Definitions → List (Given Place (SchemaParts Place))
schema_parts_given first ds = record { extension = None; it = (schema_base ds).parts } ∷ (if schema_is_defined ds then flat_map extends_schema (numbered first ds) else [])

-- the roots of the schema, repeated ones too, each with its origin
abbrev pub roots_given : ℕ → Definitions → List (Given Place Root)
roots_given first ds = flat_map (λ g. all_given g.extension g.it.roots) (schema_parts_given first ds)

-- the key of a root: the keyword of its operation
abbrev pub root_key : Given Place Root → List ℕ
root_key g = operation_keyword g.it.it.operation_type

-- the first root of an operation
abbrev pub root_in : OperationType → List (Given Place Root) → Option (Given Place (Text Place))
root_in operation roots = option_map (λ g. record { extension = g.extension; it = g.it.it.name }) (find (λ g. bytes_eq (operation_keyword operation) (root_key g)) roots)

-- the schema definition that a list folds to, with the first root of each operation
abbrev pub folded_schema : ℕ → Definitions → SchemaRoots Place
folded_schema first ds = record {
  place = (schema_base ds).place;
  description = (schema_base ds).description;
  directives = flat_map (λ g. all_given g.extension g.it.directives) (schema_parts_given first ds);
  query = root_in operation.Query (roots_given first ds);
  mutation = root_in operation.Mutation (roots_given first ds);
  subscription = root_in operation.Subscription (roots_given first ds);
}
