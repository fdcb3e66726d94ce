-- The derived `==` of definitions and documents decides whether they are the same, apart from places and sources.
use Rattle.std.proofs.Common.{◌≡◌}
use Rattle.std.specs.Bool.{Decides}
use Rattle.graphql_names.specs.Node.{content}
use Rattle.tree_definitions.specs.DefinitionTree.{definition_tree, unplaced_definition, document_tree, unplaced_document, Operation, Fragment, DirectiveDefinition, Schema, ScalarType, ObjectType, InterfaceType, UnionType, EnumType, InputObjectType, ExtendSchema, ExtendScalar, ExtendObject, ExtendInterface, ExtendUnion, ExtendEnum, ExtendInputObject}
use Rattle.tree_definitions.specs.declared.definition.Definition.{Definition}
use Rattle.tree_definitions.specs.declared.definition.Definition.TheVariants as rust
use Rattle.tree_definitions.specs.declared.document.Document.{Document}
use Rattle.tree_definitions.specs.contracts.definition.DefinitionPartialEq.TheImpl as definition_impl
use Rattle.tree_definitions.specs.contracts.document.DocumentPartialEq.TheImpl as document_impl
use Rattle.spec_tree.proofs.in_operations.Decided.{through, lists_decide}
use Rattle.spec_tree.proofs.in_operations.DirectiveEquality.{directive_definition_eq-Decides}
use Rattle.spec_tree.proofs.in_operations.OperationEquality.{operation_eq-Decides, fragment_eq-Decides}
use Rattle.tree_definitions.proofs.TreeEquality.{schema_eq-Decides, scalar_eq-Decides, object_eq-Decides, interface_eq-Decides, union_eq-Decides, enum_eq-Decides, input_object_eq-Decides, schema_extension_eq-Decides, scalar_extension_eq-Decides, object_extension_eq-Decides, interface_extension_eq-Decides, union_extension_eq-Decides, enum_extension_eq-Decides, input_object_extension_eq-Decides}

pub definition_eq-Decides : (d e : Definition) → Decides (definition_impl.ghosts.eq d e) (unplaced_definition (definition_tree d) ≡ unplaced_definition (definition_tree e))
definition_eq-Decides (rust.OperationDefinition m) (rust.OperationDefinition n) = through (operation_eq-Decides (content m) (content n)) (λ h i. Operation tt (h i)) (λ e. cc)
definition_eq-Decides (rust.FragmentDefinition m) (rust.FragmentDefinition n) = through (fragment_eq-Decides (content m) (content n)) (λ h i. Fragment tt (h i)) (λ e. cc)
definition_eq-Decides (rust.DirectiveDefinition m) (rust.DirectiveDefinition n) = through (directive_definition_eq-Decides (content m) (content n)) (λ h i. DirectiveDefinition tt (h i)) (λ e. cc)
definition_eq-Decides (rust.SchemaDefinition m) (rust.SchemaDefinition n) = through (schema_eq-Decides (content m) (content n)) (λ h i. Schema tt (h.0 i) (h.1 i)) (λ e. (cc, cc))
definition_eq-Decides (rust.ScalarTypeDefinition m) (rust.ScalarTypeDefinition n) = through (scalar_eq-Decides (content m) (content n)) (λ h i. ScalarType tt (h.0 i) (h.1 i)) (λ e. (cc, cc))
definition_eq-Decides (rust.ObjectTypeDefinition m) (rust.ObjectTypeDefinition n) = through (object_eq-Decides (content m) (content n)) (λ h i. ObjectType tt (h.0 i) (h.1 i)) (λ e. (cc, cc))
definition_eq-Decides (rust.InterfaceTypeDefinition m) (rust.InterfaceTypeDefinition n) = through (interface_eq-Decides (content m) (content n)) (λ h i. InterfaceType tt (h.0 i) (h.1 i)) (λ e. (cc, cc))
definition_eq-Decides (rust.UnionTypeDefinition m) (rust.UnionTypeDefinition n) = through (union_eq-Decides (content m) (content n)) (λ h i. UnionType tt (h.0 i) (h.1 i)) (λ e. (cc, cc))
definition_eq-Decides (rust.EnumTypeDefinition m) (rust.EnumTypeDefinition n) = through (enum_eq-Decides (content m) (content n)) (λ h i. EnumType tt (h.0 i) (h.1 i)) (λ e. (cc, cc))
definition_eq-Decides (rust.InputObjectTypeDefinition m) (rust.InputObjectTypeDefinition n) = through (input_object_eq-Decides (content m) (content n)) (λ h i. InputObjectType tt (h.0 i) (h.1 i)) (λ e. (cc, cc))
definition_eq-Decides (rust.SchemaExtension m) (rust.SchemaExtension n) = through (schema_extension_eq-Decides (content m) (content n)) (λ h i. ExtendSchema tt (h i)) (λ e. cc)
definition_eq-Decides (rust.ScalarTypeExtension m) (rust.ScalarTypeExtension n) = through (scalar_extension_eq-Decides (content m) (content n)) (λ h i. ExtendScalar tt (h i)) (λ e. cc)
definition_eq-Decides (rust.ObjectTypeExtension m) (rust.ObjectTypeExtension n) = through (object_extension_eq-Decides (content m) (content n)) (λ h i. ExtendObject tt (h i)) (λ e. cc)
definition_eq-Decides (rust.InterfaceTypeExtension m) (rust.InterfaceTypeExtension n) = through (interface_extension_eq-Decides (content m) (content n)) (λ h i. ExtendInterface tt (h i)) (λ e. cc)
definition_eq-Decides (rust.UnionTypeExtension m) (rust.UnionTypeExtension n) = through (union_extension_eq-Decides (content m) (content n)) (λ h i. ExtendUnion tt (h i)) (λ e. cc)
definition_eq-Decides (rust.EnumTypeExtension m) (rust.EnumTypeExtension n) = through (enum_extension_eq-Decides (content m) (content n)) (λ h i. ExtendEnum tt (h i)) (λ e. cc)
definition_eq-Decides (rust.InputObjectTypeExtension m) (rust.InputObjectTypeExtension n) = through (input_object_extension_eq-Decides (content m) (content n)) (λ h i. ExtendInputObject tt (h i)) (λ e. cc)
definition_eq-Decides _ _ = (λ h. cc, λ e. cc)

pub document_eq-Decides : (d e : Document) → Decides (document_impl.ghosts.eq d e) (unplaced_document (document_tree d) ≡ unplaced_document (document_tree e))
document_eq-Decides d e = lists_decide _ unplaced_definition definition_tree definition_eq-Decides d.definitions.items e.definitions.items

-- what `==` of definitions and documents says
pub ruleset equality = (definition_eq-Decides, document_eq-Decides)
