-- The parts of definitions and extensions of the schema (GraphQL, October 2021, section 3.3) and of input types
-- (sections 3.5, 3.9 and 3.10).
use Rattle.std.specs.Prelude.{map}
use Rattle.tree_literals.specs.in_names.Placed.{Place, name_tree, node_tree}
use Rattle.tree_type_members.specs.in_directives.DirectiveTree.{directives_tree, input_value_tree}
use Rattle.tree_type_members.specs.TypeSystemTree.{SchemaParts, RootOperationTree, ScalarParts, EnumParts, InputObjectParts, enum_value_tree}
use Rattle.tree_type_members.specs.in_directives.declared.operation_type.OperationType.{OperationType}
use Rattle.tree_literals.specs.in_names.declared.name.Name.{Name}
use Rattle.tree_input_types.specs.declared.scalar_type.ScalarTypeDefinition.{ScalarTypeDefinition}
use Rattle.tree_input_types.specs.declared.scalar_type.ScalarTypeExtension.{ScalarTypeExtension}
use Rattle.tree_input_types.specs.declared.enum_type.EnumTypeDefinition.{EnumTypeDefinition}
use Rattle.tree_input_types.specs.declared.enum_type.EnumTypeExtension.{EnumTypeExtension}
use Rattle.tree_input_types.specs.declared.input_object_type.InputObjectTypeDefinition.{InputObjectTypeDefinition}
use Rattle.tree_input_types.specs.declared.input_object_type.InputObjectTypeExtension.{InputObjectTypeExtension}
use Rattle.tree_input_types.specs.declared.schema.SchemaDefinition.{SchemaDefinition}
use Rattle.tree_input_types.specs.declared.schema.SchemaExtension.{SchemaExtension}

abbrev pub root_tree : OperationType × Name → RootOperationTree Place
root_tree r = record { operation_type = r.0; name = name_tree r.1 }

abbrev pub schema_parts : SchemaDefinition → SchemaParts Place
schema_parts s = record { directives = directives_tree s.directives; roots = map (node_tree root_tree) s.root_operations.items }

abbrev pub schema_extension_parts : SchemaExtension → SchemaParts Place
schema_extension_parts s = record { directives = directives_tree s.directives; roots = map (node_tree root_tree) s.root_operations.items }

abbrev pub scalar_parts : ScalarTypeDefinition → ScalarParts Place
scalar_parts t = record { name = name_tree t.name; directives = directives_tree t.directives }

abbrev pub scalar_extension_parts : ScalarTypeExtension → ScalarParts Place
scalar_extension_parts t = record { name = name_tree t.name; directives = directives_tree t.directives }

abbrev pub enum_parts : EnumTypeDefinition → EnumParts Place
enum_parts t = record { name = name_tree t.name; directives = directives_tree t.directives; values = map (node_tree enum_value_tree) t.values.items }

abbrev pub enum_extension_parts : EnumTypeExtension → EnumParts Place
enum_extension_parts t = record { name = name_tree t.name; directives = directives_tree t.directives; values = map (node_tree enum_value_tree) t.values.items }

abbrev pub input_object_parts : InputObjectTypeDefinition → InputObjectParts Place
input_object_parts t = record { name = name_tree t.name; directives = directives_tree t.directives; fields = map (node_tree input_value_tree) t.fields.items }

abbrev pub input_object_extension_parts : InputObjectTypeExtension → InputObjectParts Place
input_object_extension_parts t = record { name = name_tree t.name; directives = directives_tree t.directives; fields = map (node_tree input_value_tree) t.fields.items }
