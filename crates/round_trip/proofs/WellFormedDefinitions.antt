-- The trees of all Rust definitions are well-formed.
use Rattle.std.proofs.Common.{◌≡◌, true, List, map}
use Rattle.std.specs.List.{list_all}
use Rattle.graphql_names.specs.Node.{content}
use Rattle.graphql_names.specs.declared.name.Name.{Name}
use Rattle.graphql_names.specs.declared.node.Node.{Node}
use Rattle.graphql_names.specs.NameSyntax.{is_name}
use Rattle.graphql_names.specs.Placed.{name_tree, node_tree}
use Rattle.graphql_read.specs.in_directives.DirectiveTree.{input_value_tree}
use Rattle.graphql_read.specs.in_directives.declared.input_value.InputValueDefinition.{InputValueDefinition}
use Rattle.graphql_read.specs.in_directives.declared.operation_type.OperationType.{OperationType}
use Rattle.tree_definitions.specs.in_type_members.TypeSystemTree.{field_definition_tree, enum_value_tree}
use Rattle.tree_definitions.specs.in_type_members.declared.field_definition.FieldDefinition.{FieldDefinition}
use Rattle.tree_definitions.specs.in_type_members.declared.enum_value.EnumValueDefinition.{EnumValueDefinition}
use Rattle.tree_definitions.specs.DefinitionTree.{definition_tree, root_tree}
use Rattle.tree_definitions.specs.declared.definition.Definition.{Definition}
use Rattle.tree_definitions.specs.declared.definition.Definition.TheVariants as rust
use Rattle.round_trip.specs.WellFormed.{input_value_well_formed, field_definition_well_formed, enum_value_well_formed, root_well_formed, names_well_formed}
use Rattle.round_trip.specs.Definitions.{definition_well_formed}
use Rattle.round_trip.proofs.WellFormed.{both, list_formed, type_formed, directives_formed, input_value_formed, directive_definition_formed, operation_formed, fragment_formed}

pub field_definition_formed : (n : Node FieldDefinition) → field_definition_well_formed (node_tree field_definition_tree n) ≡ true
field_definition_formed n =
    both
    (both (both (content n).name.valid (list_formed input_value_well_formed (node_tree input_value_tree) input_value_formed (content n).arguments.items)) (type_formed (content n).ty))
    (directives_formed (content n).directives)

pub enum_value_formed : (n : Node EnumValueDefinition) → enum_value_well_formed (node_tree enum_value_tree n) ≡ true
enum_value_formed n = both (content n).value.valid (directives_formed (content n).directives)

pub root_formed : (n : Node (OperationType × Name)) → root_well_formed (node_tree root_tree n) ≡ true
root_formed n = (content n).1.valid

pub names_formed : (ns : List Name) → names_well_formed (map name_tree ns) ≡ true
names_formed = list_formed (λ n. is_name n.it) name_tree (λ n. n.valid)

pub fields_formed : (ns : List (Node FieldDefinition)) → list_all field_definition_well_formed (map (node_tree field_definition_tree) ns) ≡ true
fields_formed = list_formed field_definition_well_formed (node_tree field_definition_tree) field_definition_formed

pub enum_values_formed : (ns : List (Node EnumValueDefinition)) → list_all enum_value_well_formed (map (node_tree enum_value_tree) ns) ≡ true
enum_values_formed = list_formed enum_value_well_formed (node_tree enum_value_tree) enum_value_formed

pub input_values_formed : (ns : List (Node InputValueDefinition)) → list_all input_value_well_formed (map (node_tree input_value_tree) ns) ≡ true
input_values_formed = list_formed input_value_well_formed (node_tree input_value_tree) input_value_formed

pub roots_formed : (ns : List (Node (OperationType × Name))) → list_all root_well_formed (map (node_tree root_tree) ns) ≡ true
roots_formed = list_formed root_well_formed (node_tree root_tree) root_formed

-- Every definition's tree is well-formed.
pub definition_formed : (d : Definition) → definition_well_formed (definition_tree d) ≡ true
definition_formed (rust.OperationDefinition n) = operation_formed (content n)
definition_formed (rust.FragmentDefinition n) = fragment_formed (content n)
definition_formed (rust.DirectiveDefinition n) = directive_definition_formed (content n)
definition_formed (rust.SchemaDefinition n) = both (directives_formed (content n).directives) (roots_formed (content n).root_operations.items)
definition_formed (rust.ScalarTypeDefinition n) = both (content n).name.valid (directives_formed (content n).directives)
definition_formed (rust.ObjectTypeDefinition n) =
    both (both (both (content n).name.valid (names_formed (content n).implements_interfaces.items)) (directives_formed (content n).directives)) (fields_formed (content n).fields.items)
definition_formed (rust.InterfaceTypeDefinition n) =
    both (both (both (content n).name.valid (names_formed (content n).implements_interfaces.items)) (directives_formed (content n).directives)) (fields_formed (content n).fields.items)
definition_formed (rust.UnionTypeDefinition n) = both (both (content n).name.valid (directives_formed (content n).directives)) (names_formed (content n).members.items)
definition_formed (rust.EnumTypeDefinition n) = both (both (content n).name.valid (directives_formed (content n).directives)) (enum_values_formed (content n).values.items)
definition_formed (rust.InputObjectTypeDefinition n) = both (both (content n).name.valid (directives_formed (content n).directives)) (input_values_formed (content n).fields.items)
definition_formed (rust.SchemaExtension n) = both (directives_formed (content n).directives) (roots_formed (content n).root_operations.items)
definition_formed (rust.ScalarTypeExtension n) = both (content n).name.valid (directives_formed (content n).directives)
definition_formed (rust.ObjectTypeExtension n) =
    both (both (both (content n).name.valid (names_formed (content n).implements_interfaces.items)) (directives_formed (content n).directives)) (fields_formed (content n).fields.items)
definition_formed (rust.InterfaceTypeExtension n) =
    both (both (both (content n).name.valid (names_formed (content n).implements_interfaces.items)) (directives_formed (content n).directives)) (fields_formed (content n).fields.items)
definition_formed (rust.UnionTypeExtension n) = both (both (content n).name.valid (directives_formed (content n).directives)) (names_formed (content n).members.items)
definition_formed (rust.EnumTypeExtension n) = both (both (content n).name.valid (directives_formed (content n).directives)) (enum_values_formed (content n).values.items)
definition_formed (rust.InputObjectTypeExtension n) = both (both (content n).name.valid (directives_formed (content n).directives)) (input_values_formed (content n).fields.items)

-- So are those of a document.
pub definitions_formed : (ds : List Definition) → list_all definition_well_formed (map definition_tree ds) ≡ true
definitions_formed = list_formed definition_well_formed definition_tree definition_formed
