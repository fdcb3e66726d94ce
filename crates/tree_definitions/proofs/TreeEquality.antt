-- The derived `==` of each tree decides whether the trees are the same, apart from places.
use Rattle.std.proofs.Common.{◌≡◌, ◌&&◌, ap, nat_eq}
use Rattle.std.specs.Bool.{Decides}
use Rattle.std.specs.Option.{option_map}
use Rattle.std.specs.Cmp.Lexicographic.{pointwise}
use Rattle.graphql_names.specs.NameValue.{NameValue}
use Rattle.spec_tree.specs.in_operations.Placed.{name_tree, text_tree, unplaced_text}
use Rattle.spec_tree.specs.in_operations.DirectiveTree.{input_value_tree, unplaced_input_value}
use Rattle.tree_composite_types.specs.in_directives.declared.operation_type.OperationType.{OperationType}
use Rattle.tree_composite_types.specs.in_type_members.TypeSystemTree.{enum_value_tree, field_definition_tree, unplaced_enum, unplaced_enum_value, unplaced_field_definition, unplaced_fields, unplaced_input_object, unplaced_root, unplaced_scalar, unplaced_schema, unplaced_union}
use Rattle.tree_composite_types.specs.CompositeTree.{object_parts, object_extension_parts, interface_parts, interface_extension_parts, union_parts, union_extension_parts}
use Rattle.tree_input_types.specs.InputTypeTree.{schema_parts, schema_extension_parts, scalar_parts, scalar_extension_parts, enum_parts, enum_extension_parts, input_object_parts, input_object_extension_parts, root_tree}
use Rattle.tree_composite_types.specs.in_type_members.declared.field_definition.FieldDefinition.{FieldDefinition}
use Rattle.tree_composite_types.specs.in_type_members.declared.enum_value.EnumValueDefinition.{EnumValueDefinition}
use Rattle.tree_input_types.specs.declared.schema.SchemaDefinition.{SchemaDefinition}
use Rattle.tree_input_types.specs.declared.schema.SchemaExtension.{SchemaExtension}
use Rattle.tree_input_types.specs.declared.scalar_type.ScalarTypeDefinition.{ScalarTypeDefinition}
use Rattle.tree_input_types.specs.declared.scalar_type.ScalarTypeExtension.{ScalarTypeExtension}
use Rattle.tree_composite_types.specs.declared.object_type.ObjectTypeDefinition.{ObjectTypeDefinition}
use Rattle.tree_composite_types.specs.declared.object_type.ObjectTypeExtension.{ObjectTypeExtension}
use Rattle.tree_composite_types.specs.declared.interface_type.InterfaceTypeDefinition.{InterfaceTypeDefinition}
use Rattle.tree_composite_types.specs.declared.interface_type.InterfaceTypeExtension.{InterfaceTypeExtension}
use Rattle.tree_composite_types.specs.declared.union_type.UnionTypeDefinition.{UnionTypeDefinition}
use Rattle.tree_composite_types.specs.declared.union_type.UnionTypeExtension.{UnionTypeExtension}
use Rattle.tree_input_types.specs.declared.enum_type.EnumTypeDefinition.{EnumTypeDefinition}
use Rattle.tree_input_types.specs.declared.enum_type.EnumTypeExtension.{EnumTypeExtension}
use Rattle.tree_input_types.specs.declared.input_object_type.InputObjectTypeDefinition.{InputObjectTypeDefinition}
use Rattle.tree_input_types.specs.declared.input_object_type.InputObjectTypeExtension.{InputObjectTypeExtension}
use Rattle.tree_composite_types.specs.in_type_members.contracts.field_definition.FieldDefinitionPartialEq.TheImpl as field_definition_impl
use Rattle.tree_composite_types.specs.in_type_members.contracts.enum_value.EnumValueDefinitionPartialEq.TheImpl as enum_value_impl
use Rattle.tree_input_types.specs.contracts.schema.SchemaDefinitionPartialEq.TheImpl as schema_impl
use Rattle.tree_input_types.specs.contracts.schema.SchemaExtensionPartialEq.TheImpl as schema_extension_impl
use Rattle.tree_input_types.specs.contracts.scalar_type.ScalarTypeDefinitionPartialEq.TheImpl as scalar_impl
use Rattle.tree_input_types.specs.contracts.scalar_type.ScalarTypeExtensionPartialEq.TheImpl as scalar_extension_impl
use Rattle.tree_composite_types.specs.contracts.object_type.ObjectTypeDefinitionPartialEq.TheImpl as object_impl
use Rattle.tree_composite_types.specs.contracts.object_type.ObjectTypeExtensionPartialEq.TheImpl as object_extension_impl
use Rattle.tree_composite_types.specs.contracts.interface_type.InterfaceTypeDefinitionPartialEq.TheImpl as interface_impl
use Rattle.tree_composite_types.specs.contracts.interface_type.InterfaceTypeExtensionPartialEq.TheImpl as interface_extension_impl
use Rattle.tree_composite_types.specs.contracts.union_type.UnionTypeDefinitionPartialEq.TheImpl as union_impl
use Rattle.tree_composite_types.specs.contracts.union_type.UnionTypeExtensionPartialEq.TheImpl as union_extension_impl
use Rattle.tree_input_types.specs.contracts.enum_type.EnumTypeDefinitionPartialEq.TheImpl as enum_impl
use Rattle.tree_input_types.specs.contracts.enum_type.EnumTypeExtensionPartialEq.TheImpl as enum_extension_impl
use Rattle.tree_input_types.specs.contracts.input_object_type.InputObjectTypeDefinitionPartialEq.TheImpl as input_object_impl
use Rattle.tree_input_types.specs.contracts.input_object_type.InputObjectTypeExtensionPartialEq.TheImpl as input_object_extension_impl
pub use Rattle.spec_tree.proofs.MemberEquality.{field_definition_eq-Decides, enum_value_eq-Decides}
use Rattle.spec_tree.proofs.in_operations.Decided.{through, pair_decides, lists_decide, nodes_decide, options_decide, name_decides, text_decides}
use Rattle.spec_tree.proofs.in_operations.TypeEquality.{type_eq-Decides}
use Rattle.spec_tree.proofs.in_operations.DirectiveEquality.{directive_list_eq-Decides, input_value_eq-Decides}
use Rattle.spec_tree.proofs.in_operations.OperationEquality.{operation_type_eq, operation_type_eq-Decides}

root_eq-Decides : (a b : OperationType × NameValue) → Decides (operation_type_eq a.0 b.0 && pointwise nat_eq a.1.text b.1.text) (unplaced_root (root_tree a) ≡ unplaced_root (root_tree b))
root_eq-Decides a b =
    through
    (pair_decides _ _ (operation_type_eq-Decides a.0 b.0) (name_decides a.1 b.1))
    (λ h i. record { operation_type = h.0 i; name = h.1 i })
    (λ e. (ap (λ r. r.operation_type) e, ap (λ r. r.name) e))

pub schema_eq-Decides : (a b : SchemaDefinition) → Decides (schema_impl.ghosts.eq a b) ((option_map unplaced_text (option_map text_tree a.description) ≡ option_map unplaced_text (option_map text_tree b.description)) × (unplaced_schema (schema_parts a) ≡ unplaced_schema (schema_parts b)))
schema_eq-Decides a b =
    through
    (pair_decides _ _ (options_decide _ unplaced_text text_tree text_decides a.description b.description)
    (pair_decides _ _ (directive_list_eq-Decides a.directives b.directives)
    (nodes_decide _ unplaced_root root_tree root_eq-Decides a.root_operations.items b.root_operations.items)))
    (λ h. (h.0, λ i. record { directives = h.1.0 i; roots = h.1.1 i }))
    (λ e. (e.0, (ap (λ t. t.directives) e.1, ap (λ t. t.roots) e.1)))

pub schema_extension_eq-Decides : (a b : SchemaExtension) → Decides (schema_extension_impl.ghosts.eq a b) (unplaced_schema (schema_extension_parts a) ≡ unplaced_schema (schema_extension_parts b))
schema_extension_eq-Decides a b =
    through
    (pair_decides _ _ (directive_list_eq-Decides a.directives b.directives)
    (nodes_decide _ unplaced_root root_tree root_eq-Decides a.root_operations.items b.root_operations.items))
    (λ h i. record { directives = h.0 i; roots = h.1 i })
    (λ e. (ap (λ t. t.directives) e, ap (λ t. t.roots) e))

pub scalar_eq-Decides : (a b : ScalarTypeDefinition) → Decides (scalar_impl.ghosts.eq a b) ((option_map unplaced_text (option_map text_tree a.description) ≡ option_map unplaced_text (option_map text_tree b.description)) × (unplaced_scalar (scalar_parts a) ≡ unplaced_scalar (scalar_parts b)))
scalar_eq-Decides a b =
    through
    (pair_decides _ _ (options_decide _ unplaced_text text_tree text_decides a.description b.description)
    (pair_decides _ _ (name_decides a.name b.name)
    (directive_list_eq-Decides a.directives b.directives)))
    (λ h. (h.0, λ i. record { name = h.1.0 i; directives = h.1.1 i }))
    (λ e. (e.0, (ap (λ t. t.name) e.1, ap (λ t. t.directives) e.1)))

pub scalar_extension_eq-Decides : (a b : ScalarTypeExtension) → Decides (scalar_extension_impl.ghosts.eq a b) (unplaced_scalar (scalar_extension_parts a) ≡ unplaced_scalar (scalar_extension_parts b))
scalar_extension_eq-Decides a b =
    through
    (pair_decides _ _ (name_decides a.name b.name)
    (directive_list_eq-Decides a.directives b.directives))
    (λ h i. record { name = h.0 i; directives = h.1 i })
    (λ e. (ap (λ t. t.name) e, ap (λ t. t.directives) e))

pub object_eq-Decides : (a b : ObjectTypeDefinition) → Decides (object_impl.ghosts.eq a b) ((option_map unplaced_text (option_map text_tree a.description) ≡ option_map unplaced_text (option_map text_tree b.description)) × (unplaced_fields (object_parts a) ≡ unplaced_fields (object_parts b)))
object_eq-Decides a b =
    through
    (pair_decides _ _ (options_decide _ unplaced_text text_tree text_decides a.description b.description)
    (pair_decides _ _ (name_decides a.name b.name)
    (pair_decides _ _ (lists_decide _ unplaced_text name_tree name_decides a.implements_interfaces.items b.implements_interfaces.items)
    (pair_decides _ _ (directive_list_eq-Decides a.directives b.directives)
    (nodes_decide _ unplaced_field_definition field_definition_tree field_definition_eq-Decides a.fields.items b.fields.items)))))
    (λ h. (h.0, λ i. record { name = h.1.0 i; interfaces = h.1.1.0 i; directives = h.1.1.1.0 i; fields = h.1.1.1.1 i }))
    (λ e. (e.0, (ap (λ t. t.name) e.1, (ap (λ t. t.interfaces) e.1, (ap (λ t. t.directives) e.1, ap (λ t. t.fields) e.1)))))

pub object_extension_eq-Decides : (a b : ObjectTypeExtension) → Decides (object_extension_impl.ghosts.eq a b) (unplaced_fields (object_extension_parts a) ≡ unplaced_fields (object_extension_parts b))
object_extension_eq-Decides a b =
    through
    (pair_decides _ _ (name_decides a.name b.name)
    (pair_decides _ _ (lists_decide _ unplaced_text name_tree name_decides a.implements_interfaces.items b.implements_interfaces.items)
    (pair_decides _ _ (directive_list_eq-Decides a.directives b.directives)
    (nodes_decide _ unplaced_field_definition field_definition_tree field_definition_eq-Decides a.fields.items b.fields.items))))
    (λ h i. record { name = h.0 i; interfaces = h.1.0 i; directives = h.1.1.0 i; fields = h.1.1.1 i })
    (λ e. (ap (λ t. t.name) e, (ap (λ t. t.interfaces) e, (ap (λ t. t.directives) e, ap (λ t. t.fields) e))))

pub interface_eq-Decides : (a b : InterfaceTypeDefinition) → Decides (interface_impl.ghosts.eq a b) ((option_map unplaced_text (option_map text_tree a.description) ≡ option_map unplaced_text (option_map text_tree b.description)) × (unplaced_fields (interface_parts a) ≡ unplaced_fields (interface_parts b)))
interface_eq-Decides a b =
    through
    (pair_decides _ _ (options_decide _ unplaced_text text_tree text_decides a.description b.description)
    (pair_decides _ _ (name_decides a.name b.name)
    (pair_decides _ _ (lists_decide _ unplaced_text name_tree name_decides a.implements_interfaces.items b.implements_interfaces.items)
    (pair_decides _ _ (directive_list_eq-Decides a.directives b.directives)
    (nodes_decide _ unplaced_field_definition field_definition_tree field_definition_eq-Decides a.fields.items b.fields.items)))))
    (λ h. (h.0, λ i. record { name = h.1.0 i; interfaces = h.1.1.0 i; directives = h.1.1.1.0 i; fields = h.1.1.1.1 i }))
    (λ e. (e.0, (ap (λ t. t.name) e.1, (ap (λ t. t.interfaces) e.1, (ap (λ t. t.directives) e.1, ap (λ t. t.fields) e.1)))))

pub interface_extension_eq-Decides : (a b : InterfaceTypeExtension) → Decides (interface_extension_impl.ghosts.eq a b) (unplaced_fields (interface_extension_parts a) ≡ unplaced_fields (interface_extension_parts b))
interface_extension_eq-Decides a b =
    through
    (pair_decides _ _ (name_decides a.name b.name)
    (pair_decides _ _ (lists_decide _ unplaced_text name_tree name_decides a.implements_interfaces.items b.implements_interfaces.items)
    (pair_decides _ _ (directive_list_eq-Decides a.directives b.directives)
    (nodes_decide _ unplaced_field_definition field_definition_tree field_definition_eq-Decides a.fields.items b.fields.items))))
    (λ h i. record { name = h.0 i; interfaces = h.1.0 i; directives = h.1.1.0 i; fields = h.1.1.1 i })
    (λ e. (ap (λ t. t.name) e, (ap (λ t. t.interfaces) e, (ap (λ t. t.directives) e, ap (λ t. t.fields) e))))

pub union_eq-Decides : (a b : UnionTypeDefinition) → Decides (union_impl.ghosts.eq a b) ((option_map unplaced_text (option_map text_tree a.description) ≡ option_map unplaced_text (option_map text_tree b.description)) × (unplaced_union (union_parts a) ≡ unplaced_union (union_parts b)))
union_eq-Decides a b =
    through
    (pair_decides _ _ (options_decide _ unplaced_text text_tree text_decides a.description b.description)
    (pair_decides _ _ (name_decides a.name b.name)
    (pair_decides _ _ (directive_list_eq-Decides a.directives b.directives)
    (lists_decide _ unplaced_text name_tree name_decides a.members.items b.members.items))))
    (λ h. (h.0, λ i. record { name = h.1.0 i; directives = h.1.1.0 i; members = h.1.1.1 i }))
    (λ e. (e.0, (ap (λ t. t.name) e.1, (ap (λ t. t.directives) e.1, ap (λ t. t.members) e.1))))

pub union_extension_eq-Decides : (a b : UnionTypeExtension) → Decides (union_extension_impl.ghosts.eq a b) (unplaced_union (union_extension_parts a) ≡ unplaced_union (union_extension_parts b))
union_extension_eq-Decides a b =
    through
    (pair_decides _ _ (name_decides a.name b.name)
    (pair_decides _ _ (directive_list_eq-Decides a.directives b.directives)
    (lists_decide _ unplaced_text name_tree name_decides a.members.items b.members.items)))
    (λ h i. record { name = h.0 i; directives = h.1.0 i; members = h.1.1 i })
    (λ e. (ap (λ t. t.name) e, (ap (λ t. t.directives) e, ap (λ t. t.members) e)))

pub enum_eq-Decides : (a b : EnumTypeDefinition) → Decides (enum_impl.ghosts.eq a b) ((option_map unplaced_text (option_map text_tree a.description) ≡ option_map unplaced_text (option_map text_tree b.description)) × (unplaced_enum (enum_parts a) ≡ unplaced_enum (enum_parts b)))
enum_eq-Decides a b =
    through
    (pair_decides _ _ (options_decide _ unplaced_text text_tree text_decides a.description b.description)
    (pair_decides _ _ (name_decides a.name b.name)
    (pair_decides _ _ (directive_list_eq-Decides a.directives b.directives)
    (nodes_decide _ unplaced_enum_value enum_value_tree enum_value_eq-Decides a.values.items b.values.items))))
    (λ h. (h.0, λ i. record { name = h.1.0 i; directives = h.1.1.0 i; values = h.1.1.1 i }))
    (λ e. (e.0, (ap (λ t. t.name) e.1, (ap (λ t. t.directives) e.1, ap (λ t. t.values) e.1))))

pub enum_extension_eq-Decides : (a b : EnumTypeExtension) → Decides (enum_extension_impl.ghosts.eq a b) (unplaced_enum (enum_extension_parts a) ≡ unplaced_enum (enum_extension_parts b))
enum_extension_eq-Decides a b =
    through
    (pair_decides _ _ (name_decides a.name b.name)
    (pair_decides _ _ (directive_list_eq-Decides a.directives b.directives)
    (nodes_decide _ unplaced_enum_value enum_value_tree enum_value_eq-Decides a.values.items b.values.items)))
    (λ h i. record { name = h.0 i; directives = h.1.0 i; values = h.1.1 i })
    (λ e. (ap (λ t. t.name) e, (ap (λ t. t.directives) e, ap (λ t. t.values) e)))

pub input_object_eq-Decides : (a b : InputObjectTypeDefinition) → Decides (input_object_impl.ghosts.eq a b) ((option_map unplaced_text (option_map text_tree a.description) ≡ option_map unplaced_text (option_map text_tree b.description)) × (unplaced_input_object (input_object_parts a) ≡ unplaced_input_object (input_object_parts b)))
input_object_eq-Decides a b =
    through
    (pair_decides _ _ (options_decide _ unplaced_text text_tree text_decides a.description b.description)
    (pair_decides _ _ (name_decides a.name b.name)
    (pair_decides _ _ (directive_list_eq-Decides a.directives b.directives)
    (nodes_decide _ unplaced_input_value input_value_tree input_value_eq-Decides a.fields.items b.fields.items))))
    (λ h. (h.0, λ i. record { name = h.1.0 i; directives = h.1.1.0 i; fields = h.1.1.1 i }))
    (λ e. (e.0, (ap (λ t. t.name) e.1, (ap (λ t. t.directives) e.1, ap (λ t. t.fields) e.1))))

pub input_object_extension_eq-Decides : (a b : InputObjectTypeExtension) → Decides (input_object_extension_impl.ghosts.eq a b) (unplaced_input_object (input_object_extension_parts a) ≡ unplaced_input_object (input_object_extension_parts b))
input_object_extension_eq-Decides a b =
    through
    (pair_decides _ _ (name_decides a.name b.name)
    (pair_decides _ _ (directive_list_eq-Decides a.directives b.directives)
    (nodes_decide _ unplaced_input_value input_value_tree input_value_eq-Decides a.fields.items b.fields.items)))
    (λ h i. record { name = h.0 i; directives = h.1.0 i; fields = h.1.1 i })
    (λ e. (ap (λ t. t.name) e, (ap (λ t. t.directives) e, ap (λ t. t.fields) e)))

-- what `==` of each tree says
pub ruleset equality = (field_definition_eq-Decides, enum_value_eq-Decides, schema_eq-Decides, schema_extension_eq-Decides, scalar_eq-Decides, scalar_extension_eq-Decides, object_eq-Decides, object_extension_eq-Decides, interface_eq-Decides, interface_extension_eq-Decides, union_eq-Decides, union_extension_eq-Decides, enum_eq-Decides, enum_extension_eq-Decides, input_object_eq-Decides, input_object_extension_eq-Decides)
