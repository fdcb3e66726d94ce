-- Private: leads to `WrittenTwice`. The schema definition and its extensions written whole: unchanged, but their roots are in order and without places.
use Rattle.std.specs.Prelude.{ℕ, Bool, not, ◌&&◌, List, [], ◌∷◌, ◌++◌, map, None, is_none}
use Rattle.std.specs.List.{flat_map, filter}
use Rattle.std.specs.Option.{option_map_or}
use Rattle.std.specs.Str.{bytes_eq}
use Rattle.graphql_names.specs.Placed.{Placed, Place, Text}
use Rattle.schema_components.specs.in_operations.OperationQueries.{operation_keyword, default_root_name}
use Rattle.schema_components.specs.in_operations.in_directives.declared.operation_type.OperationType.{OperationType}
use Rattle.schema_components.specs.in_operations.in_directives.declared.operation_type.OperationType.TheVariants as operation
use Rattle.tree_definitions.specs.in_type_members.TypeSystemTree.{SchemaParts}
use Rattle.tree_definitions.specs.DefinitionTree.{DefinitionTree, Schema, ExtendSchema}
use Rattle.tree_definitions.specs.Queries.{definition_place}
use Rattle.schema_types.specs.Out.{is_empty}
use Rattle.schema_fold.specs.NumberedDefinition.{Definitions}
use Rattle.schema_fold.specs.SchemaFold.{Root, SchemaGiver, schema_extension_here, schema_base}
use Rattle.verdict_laws.specs.Arranged.{arranged}

-- the names of the roots of an operation
abbrev pub roots_of : OperationType → SchemaParts Place → List (Text Place)
roots_of operation p = map (λ r. r.it.name) (filter (λ r. bytes_eq (operation_keyword operation) (operation_keyword r.it.operation_type)) p.roots)

abbrev pub written_roots : OperationType → List (Text Place) → List Root
written_roots operation names = map (λ name. record { it = record { operation_type = operation; name = name }; place = None }) names

-- with the roots in the order query, mutation, subscription, without their places
abbrev pub whole_parts : SchemaParts Place → SchemaParts Place
whole_parts p = record {
  directives = p.directives;
  roots = written_roots operation.Query (roots_of operation.Query p) ++ written_roots operation.Mutation (roots_of operation.Mutation p) ++ written_roots operation.Subscription (roots_of operation.Subscription p);
}

abbrev pub SchemaExtension : Type 0
SchemaExtension = Placed Place (SchemaParts Place)

abbrev pub schema_extensions_in : Definitions → List SchemaExtension
schema_extensions_in ds = flat_map (λ d. option_map_or (λ parts. record { it = parts; place = definition_place d } ∷ []) (schema_extension_here d) []) ds

abbrev pub schema_classes : List (SchemaExtension → Bool)
schema_classes =
    (λ x. not (is_empty x.it.directives))
    ∷ (λ x. not (is_empty (roots_of operation.Query x.it)))
    ∷ (λ x. not (is_empty (roots_of operation.Mutation x.it)))
    ∷ (λ x. not (is_empty (roots_of operation.Subscription x.it)))
    ∷ []

abbrev pub whole_base : SchemaGiver → DefinitionTree Place
whole_base s = Schema s.place s.description (whole_parts s.parts)

abbrev pub whole_schema_extension : SchemaExtension → DefinitionTree Place
whole_schema_extension x = ExtendSchema x.place (whole_parts x.it)

abbrev pub whole_schema : Definitions → List (DefinitionTree Place)
whole_schema ds = whole_base (schema_base ds) ∷ map whole_schema_extension (arranged schema_classes (schema_extensions_in ds))

-- the names of the roots of the operation that the schema definition, or the implicit one, and the extensions give
abbrev pub roots_in : OperationType → Definitions → List (Text Place)
roots_in operation ds = roots_of operation (schema_base ds).parts ++ flat_map (λ x. roots_of operation x.it) (schema_extensions_in ds)

-- the first root of an operation is the implied one, or there is no root and none is implied; `is_object` tells which names are those of objects
abbrev pub implicit_of : (List ℕ → Bool) → OperationType → List (Text Place) → Bool
implicit_of is_object operation [] = not (is_object (default_root_name operation))
implicit_of is_object operation (n ∷ ns) = bytes_eq n.it (default_root_name operation) && is_object (default_root_name operation)

-- the schema definition is left out
abbrev pub left_out : (List ℕ → Bool) → SchemaGiver → Bool → Bool
left_out is_object s no_extensions =
    is_none s.description && is_empty s.parts.directives && no_extensions
    && implicit_of is_object operation.Query (roots_of operation.Query s.parts) && implicit_of is_object operation.Mutation (roots_of operation.Mutation s.parts)
    && implicit_of is_object operation.Subscription (roots_of operation.Subscription s.parts) && not (is_empty (roots_of operation.Query s.parts))
