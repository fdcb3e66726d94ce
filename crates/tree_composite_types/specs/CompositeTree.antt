-- The parts of definitions and extensions of composite types (GraphQL, October 2021, sections 3.6 to 3.8).
use Rattle.std.specs.Prelude.{map}
use Rattle.tree_literals.specs.in_names.Placed.{Place, name_tree, node_tree}
use Rattle.tree_type_members.specs.in_directives.DirectiveTree.{directives_tree}
use Rattle.tree_type_members.specs.TypeSystemTree.{FieldsParts, UnionParts, field_definition_tree}
use Rattle.tree_composite_types.specs.declared.object_type.ObjectTypeDefinition.{ObjectTypeDefinition}
use Rattle.tree_composite_types.specs.declared.object_type.ObjectTypeExtension.{ObjectTypeExtension}
use Rattle.tree_composite_types.specs.declared.interface_type.InterfaceTypeDefinition.{InterfaceTypeDefinition}
use Rattle.tree_composite_types.specs.declared.interface_type.InterfaceTypeExtension.{InterfaceTypeExtension}
use Rattle.tree_composite_types.specs.declared.union_type.UnionTypeDefinition.{UnionTypeDefinition}
use Rattle.tree_composite_types.specs.declared.union_type.UnionTypeExtension.{UnionTypeExtension}

abbrev pub object_parts : ObjectTypeDefinition → FieldsParts Place
object_parts t = record {
  name = name_tree t.name;
  interfaces = map name_tree t.implements_interfaces.items;
  directives = directives_tree t.directives;
  fields = map (node_tree field_definition_tree) t.fields.items;
}

abbrev pub object_extension_parts : ObjectTypeExtension → FieldsParts Place
object_extension_parts t = record {
  name = name_tree t.name;
  interfaces = map name_tree t.implements_interfaces.items;
  directives = directives_tree t.directives;
  fields = map (node_tree field_definition_tree) t.fields.items;
}

abbrev pub interface_parts : InterfaceTypeDefinition → FieldsParts Place
interface_parts t = record {
  name = name_tree t.name;
  interfaces = map name_tree t.implements_interfaces.items;
  directives = directives_tree t.directives;
  fields = map (node_tree field_definition_tree) t.fields.items;
}

abbrev pub interface_extension_parts : InterfaceTypeExtension → FieldsParts Place
interface_extension_parts t = record {
  name = name_tree t.name;
  interfaces = map name_tree t.implements_interfaces.items;
  directives = directives_tree t.directives;
  fields = map (node_tree field_definition_tree) t.fields.items;
}

abbrev pub union_parts : UnionTypeDefinition → UnionParts Place
union_parts t = record { name = name_tree t.name; directives = directives_tree t.directives; members = map name_tree t.members.items }

abbrev pub union_extension_parts : UnionTypeExtension → UnionParts Place
union_extension_parts t = record { name = name_tree t.name; directives = directives_tree t.directives; members = map name_tree t.members.items }
