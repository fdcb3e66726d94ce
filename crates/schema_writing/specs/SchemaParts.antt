-- Private: leads to `specs/Out.antt` of `schema_types`. What is written of the schema definition and of directives, in pieces.
use Rattle.std.specs.Prelude.{Bool, ◌&&◌, List, [], ◌∷◌, map, None, Some, is_some}
use Rattle.graphql_names.specs.declared.node.Node.{Node}
use Rattle.graphql_names.specs.Placed.{Place, node_tree}
use Rattle.tree_directives.specs.DirectiveTree.{Directives, directive_definition_tree}
use Rattle.tree_directives.specs.declared.directive.DirectiveDefinition.{DirectiveDefinition}
use Rattle.tree_directives.specs.declared.operation_type.OperationType.TheVariants as operation
use Rattle.tree_definitions.specs.DefinitionTree.{DefinitionTree, Schema, ExtendSchema}
use Rattle.schema_components.specs.Names.{Entries}
use Rattle.schema_components.specs.Given.{ExtensionTree}
use Rattle.schema_types.specs.SchemaTree.{SchemaType, SchemaRoots, SchemaTree}
use Rattle.schema_types.specs.SchemaView.{types_view}
use Rattle.schema_types.specs.TypeView.{schema_roots}
use Rattle.schema_types.specs.declared.extended_type.ExtendedType.{ExtendedType}
use Rattle.schema_types.specs.declared.schema_definition.SchemaDefinition.{SchemaDefinition}
use Rattle.indexmap.specs.IndexMap.{IndexMap}
use Rattle.graphql_names.specs.NameValue.{NameValue}
use Rattle.schema_types.specs.Out.{schema_parts_given_by, is_implicit_root, written_directive}

-- the definition of a directive, if it is not built in
abbrev pub written_node : Node DirectiveDefinition → List (DefinitionTree Place)
written_node n = written_directive ([], node_tree directive_definition_tree n)

-- the schema definition, with these directives
abbrev pub schema_from : SchemaRoots Place → Directives Place → DefinitionTree Place
schema_from s directives = Schema s.place s.description (record { directives = directives; roots = (schema_parts_given_by None None s).roots })

-- an extension of the schema, with these directives
abbrev pub schema_extended_from : SchemaRoots Place → ExtensionTree Place → Directives Place → DefinitionTree Place
schema_extended_from s e directives = ExtendSchema e.place (record { directives = directives; roots = (schema_parts_given_by None (Some e) s).roots })

-- the schema definition and these extensions of it
abbrev pub whole_schema : SchemaRoots Place → List (ExtensionTree Place) → List (DefinitionTree Place)
whole_schema s es = Schema s.place s.description (schema_parts_given_by None None s) ∷ map (λ e. ExtendSchema e.place (schema_parts_given_by None (Some e) s)) es

-- whether the roots are the implicit ones, and there is a query root
abbrev pub has_implicit_roots : Entries (SchemaType Place) → SchemaRoots Place → Bool
has_implicit_roots types s = is_implicit_root types operation.Query s.query && is_implicit_root types operation.Mutation s.mutation && is_implicit_root types operation.Subscription s.subscription && is_some s.query

-- a schema with this definition and these types, without directive definitions
abbrev pub schema_and_types : {S : Type 0} → Node SchemaDefinition → IndexMap NameValue ExtendedType S → SchemaTree Place
schema_and_types definition types = record { definition = schema_roots definition; directives = []; types = types_view types }
