-- What contracts see of types, directive definitions and the schema definition.
use Rattle.std.specs.Prelude.{ℕ, List, [], map}
use Rattle.std.specs.Option.{option_map}
use Rattle.graphql_names.specs.NameValue.{NameValue}
use Rattle.graphql_names.specs.Node.{content, place}
use Rattle.graphql_names.specs.declared.node.Node.{Node}
use Rattle.graphql_names.specs.Placed.{Place, name_tree, text_tree}
use Rattle.schema_components.specs.in_directives.DirectiveTree.{input_value_tree}
use Rattle.spec_tree.specs.in_type_members.TypeSystemTree.{field_definition_tree, enum_value_tree}
use Rattle.schema_components.specs.Names.{entries_of}
use Rattle.schema_components.specs.Given.{component_tree, component_name_tree}
use Rattle.schema_components.specs.Applied.{applied_tree}
use Rattle.schema_types.specs.SchemaTree.{SchemaType, SchemaRoots}
use Rattle.schema_types.specs.declared.type_kind.TypeKind.TheVariants as kind
use Rattle.schema_types.specs.declared.kinds.ScalarType.{ScalarType}
use Rattle.schema_types.specs.declared.kinds.ObjectType.{ObjectType}
use Rattle.schema_types.specs.declared.kinds.InterfaceType.{InterfaceType}
use Rattle.schema_types.specs.declared.kinds.UnionType.{UnionType}
use Rattle.schema_types.specs.declared.kinds.EnumType.{EnumType}
use Rattle.schema_types.specs.declared.kinds.InputObjectType.{InputObjectType}
use Rattle.schema_types.specs.declared.extended_type.ExtendedType.{ExtendedType}
use Rattle.schema_types.specs.declared.extended_type.ExtendedType.TheVariants as rust
use Rattle.schema_types.specs.declared.schema_definition.SchemaDefinition.{SchemaDefinition}

-- the text of a name, as a key
abbrev pub name_text : NameValue → List ℕ
name_text n = n.text

abbrev pub scalar_type : Place → ScalarType → SchemaType Place
scalar_type p t = record {
  kind = kind.Scalar;
  place = p;
  description = option_map text_tree t.description;
  name = name_tree t.name;
  directives = applied_tree t.directives;
  interfaces = [];
  fields = [];
  members = [];
  values = [];
  inputs = [];
}

abbrev pub object_type : Place → ObjectType → SchemaType Place
object_type p t = record {
  kind = kind.Object;
  place = p;
  description = option_map text_tree t.description;
  name = name_tree t.name;
  directives = applied_tree t.directives;
  interfaces = map component_name_tree t.implements_interfaces.keys;
  fields = entries_of name_text (component_tree field_definition_tree) t.fields;
  members = [];
  values = [];
  inputs = [];
}

abbrev pub interface_type : Place → InterfaceType → SchemaType Place
interface_type p t = record {
  kind = kind.Interface;
  place = p;
  description = option_map text_tree t.description;
  name = name_tree t.name;
  directives = applied_tree t.directives;
  interfaces = map component_name_tree t.implements_interfaces.keys;
  fields = entries_of name_text (component_tree field_definition_tree) t.fields;
  members = [];
  values = [];
  inputs = [];
}

abbrev pub union_type : Place → UnionType → SchemaType Place
union_type p t = record {
  kind = kind.Union;
  place = p;
  description = option_map text_tree t.description;
  name = name_tree t.name;
  directives = applied_tree t.directives;
  interfaces = [];
  fields = [];
  members = map component_name_tree t.members.keys;
  values = [];
  inputs = [];
}

abbrev pub enum_type : Place → EnumType → SchemaType Place
enum_type p t = record {
  kind = kind.Enum;
  place = p;
  description = option_map text_tree t.description;
  name = name_tree t.name;
  directives = applied_tree t.directives;
  interfaces = [];
  fields = [];
  members = [];
  values = entries_of name_text (component_tree enum_value_tree) t.values;
  inputs = [];
}

abbrev pub input_object_type : Place → InputObjectType → SchemaType Place
input_object_type p t = record {
  kind = kind.InputObject;
  place = p;
  description = option_map text_tree t.description;
  name = name_tree t.name;
  directives = applied_tree t.directives;
  interfaces = [];
  fields = [];
  members = [];
  values = [];
  inputs = entries_of name_text (component_tree input_value_tree) t.fields;
}

abbrev pub extended_type : ExtendedType → SchemaType Place
extended_type (rust.Scalar t) = scalar_type (place t) (content t)
extended_type (rust.Object t) = object_type (place t) (content t)
extended_type (rust.Interface t) = interface_type (place t) (content t)
extended_type (rust.Union t) = union_type (place t) (content t)
extended_type (rust.Enum t) = enum_type (place t) (content t)
extended_type (rust.InputObject t) = input_object_type (place t) (content t)

abbrev pub schema_roots : Node SchemaDefinition → SchemaRoots Place
schema_roots n = record {
  place = place n;
  description = option_map text_tree (content n).description;
  directives = applied_tree (content n).directives;
  query = option_map component_name_tree (content n).query;
  mutation = option_map component_name_tree (content n).mutation;
  subscription = option_map component_name_tree (content n).subscription;
}
