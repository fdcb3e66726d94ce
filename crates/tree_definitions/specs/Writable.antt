-- Definitions and documents that the grammar can write (GraphQL, October 2021, appendix B): what it requires of
-- them apart from their form.
use Rattle.std.specs.Prelude.{Bool, true, ◌&&◌, List}
use Rattle.std.specs.List.{list_all}
use Rattle.spec_tree.specs.in_operations.Writable.{directives_writable, directive_definition_writable, operation_writable, fragment_writable}
pub use Rattle.tree_composite_types.specs.in_type_members.PartsWritable.{has_some, field_definition_writable, field_definitions_writable, enum_value_writable, enum_values_writable, schema_writable, fields_writable, enum_writable, input_object_writable, schema_extension_writable, scalar_extension_writable, fields_extension_writable, union_extension_writable, enum_extension_writable, input_object_extension_writable}
use Rattle.tree_definitions.specs.DefinitionTree.{DefinitionTree, Operation, Fragment, DirectiveDefinition, Schema, ScalarType, ObjectType, InterfaceType, UnionType, EnumType, InputObjectType, ExtendSchema, ExtendScalar, ExtendObject, ExtendInterface, ExtendUnion, ExtendEnum, ExtendInputObject}

abbrev pub definition_writable : {P : Type 0} → DefinitionTree P → Bool
definition_writable (Operation p o) = operation_writable o
definition_writable (Fragment p f) = fragment_writable f
definition_writable (DirectiveDefinition p d) = directive_definition_writable d
definition_writable (Schema p d s) = schema_writable s
definition_writable (ScalarType p d t) = directives_writable true t.directives
definition_writable (ObjectType p d t) = fields_writable t
definition_writable (InterfaceType p d t) = fields_writable t
definition_writable (UnionType p d t) = directives_writable true t.directives
definition_writable (EnumType p d t) = enum_writable t
definition_writable (InputObjectType p d t) = input_object_writable t
definition_writable (ExtendSchema p s) = schema_extension_writable s
definition_writable (ExtendScalar p t) = scalar_extension_writable t
definition_writable (ExtendObject p t) = fields_extension_writable t
definition_writable (ExtendInterface p t) = fields_extension_writable t
definition_writable (ExtendUnion p t) = union_extension_writable t
definition_writable (ExtendEnum p t) = enum_extension_writable t
definition_writable (ExtendInputObject p t) = input_object_extension_writable t

-- the document has a definition, and each of its definitions can be written
abbrev pub document_writable : {P : Type 0} → List (DefinitionTree P) → Bool
document_writable ds = has_some ds && list_all definition_writable ds
