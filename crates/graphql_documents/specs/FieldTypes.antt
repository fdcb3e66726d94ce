-- Which type of a schema a field has: the one named inside all brackets and `!` of its definition's type (GraphQL, October 2021, sections 3.4.1, 3.11 and 3.12).
use Rattle.std.specs.Prelude.{Option}
use Rattle.graphql_names.specs.Placed.{Placed, Place}
use Rattle.document_typing.specs.in_literals.TypeQueries.{inner_name}
use Rattle.schema_types.specs.in_type_members.TypeSystemTree.{FieldDefinitionTree}
use Rattle.schema_types.specs.SchemaTree.{SchemaType, SchemaTree}
use Rattle.schema_types.specs.Addresses.{type_at}

-- the named type inside the type of a field's definition, if the schema has it
abbrev pub inner_type_def : SchemaTree Place → Placed Place (FieldDefinitionTree Place) → Option (SchemaType Place)
inner_type_def s d = type_at s (inner_name d.it.ty).it
