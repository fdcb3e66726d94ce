-- What contracts see of the types, the directive definitions and the schema definition of a schema.
use Rattle.std.specs.Prelude.{List}
use Rattle.graphql_names.specs.NameValue.{NameValue}
use Rattle.graphql_names.specs.declared.node.Node.{Node}
use Rattle.graphql_names.specs.Placed.{Placed, Place, node_tree}
use Rattle.schema_components.specs.in_directives.DirectiveTree.{DirectiveDefinitionTree, directive_definition_tree}
use Rattle.schema_components.specs.in_directives.declared.directive.DirectiveDefinition.{DirectiveDefinition}
use Rattle.schema_components.specs.Names.{Entries, entries_of}
use Rattle.schema_types.specs.SchemaTree.{SchemaType, SchemaTree}
use Rattle.schema_types.specs.TypeView.{name_text, extended_type, schema_roots}
use Rattle.schema_types.specs.declared.extended_type.ExtendedType.{ExtendedType}
use Rattle.schema_types.specs.declared.schema_definition.SchemaDefinition.{SchemaDefinition}
use Rattle.indexmap.specs.IndexMap.{IndexMap}

-- the types under their names, in order
abbrev pub types_view : {S : Type 0} → IndexMap NameValue ExtendedType S → Entries (SchemaType Place)
types_view types = entries_of name_text extended_type types

-- the directive definitions under their names, in order
abbrev pub definitions_view : {S : Type 0} → IndexMap NameValue (Node DirectiveDefinition) S → Entries (Placed Place (DirectiveDefinitionTree Place))
definitions_view directives = entries_of name_text (node_tree directive_definition_tree) directives

-- a schema with these parts
abbrev pub schema_view : {S R : Type 0} → Node SchemaDefinition → IndexMap NameValue (Node DirectiveDefinition) S → IndexMap NameValue ExtendedType R → SchemaTree Place
schema_view definition directives types = record {
  definition = schema_roots definition;
  directives = definitions_view directives;
  types = types_view types;
}
