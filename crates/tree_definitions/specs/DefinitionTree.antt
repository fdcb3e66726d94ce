-- What contracts see of definitions and of whole documents.
use Rattle.std.specs.Prelude.{List, map}
use Rattle.std.specs.Option.{option_map}
use Rattle.graphql_names.specs.Node.{content, place}
use Rattle.spec_tree.specs.in_operations.Placed.{Place, text_tree}
use Rattle.spec_tree.specs.in_operations.DirectiveTree.{directive_definition_tree}
use Rattle.spec_tree.specs.in_operations.OperationTree.{operation_tree, fragment_tree}
pub use Rattle.tree_composite_types.specs.CompositeTree.{object_parts, object_extension_parts, interface_parts, interface_extension_parts, union_parts, union_extension_parts}
pub use Rattle.tree_input_types.specs.InputTypeTree.{root_tree, schema_parts, schema_extension_parts, scalar_parts, scalar_extension_parts, enum_parts, enum_extension_parts, input_object_parts, input_object_extension_parts}
pub use Rattle.spec_tree.specs.DefinitionTree.{DefinitionTree, Operation, Fragment, DirectiveDefinition, Schema, ScalarType, ObjectType, InterfaceType, UnionType, EnumType, InputObjectType, ExtendSchema, ExtendScalar, ExtendObject, ExtendInterface, ExtendUnion, ExtendEnum, ExtendInputObject, unplaced_definition, unplaced_document}
use Rattle.tree_definitions.specs.declared.definition.Definition.{Definition}
use Rattle.tree_definitions.specs.declared.definition.Definition.TheVariants as rust
use Rattle.tree_definitions.specs.declared.document.Document.{Document}

abbrev pub definition_tree : Definition → DefinitionTree Place
definition_tree (rust.OperationDefinition n) = Operation (place n) (operation_tree (content n))
definition_tree (rust.FragmentDefinition n) = Fragment (place n) (fragment_tree (content n))
definition_tree (rust.DirectiveDefinition n) = DirectiveDefinition (place n) (directive_definition_tree (content n))
definition_tree (rust.SchemaDefinition n) = Schema (place n) (option_map text_tree (content n).description) (schema_parts (content n))
definition_tree (rust.ScalarTypeDefinition n) = ScalarType (place n) (option_map text_tree (content n).description) (scalar_parts (content n))
definition_tree (rust.ObjectTypeDefinition n) = ObjectType (place n) (option_map text_tree (content n).description) (object_parts (content n))
definition_tree (rust.InterfaceTypeDefinition n) = InterfaceType (place n) (option_map text_tree (content n).description) (interface_parts (content n))
definition_tree (rust.UnionTypeDefinition n) = UnionType (place n) (option_map text_tree (content n).description) (union_parts (content n))
definition_tree (rust.EnumTypeDefinition n) = EnumType (place n) (option_map text_tree (content n).description) (enum_parts (content n))
definition_tree (rust.InputObjectTypeDefinition n) = InputObjectType (place n) (option_map text_tree (content n).description) (input_object_parts (content n))
definition_tree (rust.SchemaExtension n) = ExtendSchema (place n) (schema_extension_parts (content n))
definition_tree (rust.ScalarTypeExtension n) = ExtendScalar (place n) (scalar_extension_parts (content n))
definition_tree (rust.ObjectTypeExtension n) = ExtendObject (place n) (object_extension_parts (content n))
definition_tree (rust.InterfaceTypeExtension n) = ExtendInterface (place n) (interface_extension_parts (content n))
definition_tree (rust.UnionTypeExtension n) = ExtendUnion (place n) (union_extension_parts (content n))
definition_tree (rust.EnumTypeExtension n) = ExtendEnum (place n) (enum_extension_parts (content n))
definition_tree (rust.InputObjectTypeExtension n) = ExtendInputObject (place n) (input_object_extension_parts (content n))

-- the tree of a document: its definitions in order
abbrev pub document_tree : Document → List (DefinitionTree Place)
document_tree d = map definition_tree d.definitions.items
