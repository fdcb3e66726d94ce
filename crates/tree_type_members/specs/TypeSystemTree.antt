-- The parts of type system definitions and of their extensions (GraphQL, October 2021, section 3).
use Rattle.std.specs.Prelude.{List, map, Option}
use Rattle.std.specs.Option.{option_map}
use Rattle.tree_literals.specs.in_names.Placed.{Placed, Place, Text, name_tree, text_tree, node_tree, unplaced_text, unplaced_node}
use Rattle.tree_literals.specs.TypeTree.{TypeTree, type_tree, unplaced_type}
use Rattle.tree_directives.specs.DirectiveTree.{Directives, InputValues, directives_tree, input_value_tree, unplaced_directives, unplaced_input_value}
use Rattle.tree_directives.specs.declared.operation_type.OperationType.{OperationType}
use Rattle.tree_type_members.specs.declared.field_definition.FieldDefinition.{FieldDefinition}
use Rattle.tree_type_members.specs.declared.enum_value.EnumValueDefinition.{EnumValueDefinition}

-- name(arguments): ty @directives
pub record FieldDefinitionTree (P : Type 0) : Type 0 where
  pub description : Option (Text P)
  pub name : Text P
  pub arguments : InputValues P
  pub ty : TypeTree P
  pub directives : Directives P

-- value @directives
pub record EnumValueTree (P : Type 0) : Type 0 where
  pub description : Option (Text P)
  pub value : Text P
  pub directives : Directives P

-- operation_type: name
pub record RootOperationTree (P : Type 0) : Type 0 where
  pub operation_type : OperationType
  pub name : Text P

-- schema @directives { roots }
pub record SchemaParts (P : Type 0) : Type 0 where
  pub directives : Directives P
  pub roots : List (Placed P (RootOperationTree P))

-- scalar name @directives
pub record ScalarParts (P : Type 0) : Type 0 where
  pub name : Text P
  pub directives : Directives P

-- type or interface name implements interfaces @directives { fields }
pub record FieldsParts (P : Type 0) : Type 0 where
  pub name : Text P
  pub interfaces : List (Text P)
  pub directives : Directives P
  pub fields : List (Placed P (FieldDefinitionTree P))

-- union name @directives = members
pub record UnionParts (P : Type 0) : Type 0 where
  pub name : Text P
  pub directives : Directives P
  pub members : List (Text P)

-- enum name @directives { values }
pub record EnumParts (P : Type 0) : Type 0 where
  pub name : Text P
  pub directives : Directives P
  pub values : List (Placed P (EnumValueTree P))

-- input name @directives { fields }
pub record InputObjectParts (P : Type 0) : Type 0 where
  pub name : Text P
  pub directives : Directives P
  pub fields : InputValues P

abbrev pub field_definition_tree : FieldDefinition → FieldDefinitionTree Place
field_definition_tree f = record {
  description = option_map text_tree f.description;
  name = name_tree f.name;
  arguments = map (node_tree input_value_tree) f.arguments.items;
  ty = type_tree f.ty;
  directives = directives_tree f.directives;
}

abbrev pub enum_value_tree : EnumValueDefinition → EnumValueTree Place
enum_value_tree v = record {
  description = option_map text_tree v.description;
  value = name_tree v.value;
  directives = directives_tree v.directives;
}

module _ {P : Type 0} where
  abbrev pub unplaced_field_definition : FieldDefinitionTree P → FieldDefinitionTree (Unit {0})
  unplaced_field_definition f = record {
    description = option_map unplaced_text f.description;
    name = unplaced_text f.name;
    arguments = map (unplaced_node unplaced_input_value) f.arguments;
    ty = unplaced_type f.ty;
    directives = unplaced_directives f.directives;
  }

  abbrev pub unplaced_enum_value : EnumValueTree P → EnumValueTree (Unit {0})
  unplaced_enum_value v = record {
    description = option_map unplaced_text v.description;
    value = unplaced_text v.value;
    directives = unplaced_directives v.directives;
  }

  abbrev pub unplaced_root : RootOperationTree P → RootOperationTree (Unit {0})
  unplaced_root r = record { operation_type = r.operation_type; name = unplaced_text r.name }

  abbrev pub unplaced_schema : SchemaParts P → SchemaParts (Unit {0})
  unplaced_schema s = record { directives = unplaced_directives s.directives; roots = map (unplaced_node unplaced_root) s.roots }

  abbrev pub unplaced_scalar : ScalarParts P → ScalarParts (Unit {0})
  unplaced_scalar s = record { name = unplaced_text s.name; directives = unplaced_directives s.directives }

  abbrev pub unplaced_fields : FieldsParts P → FieldsParts (Unit {0})
  unplaced_fields t = record {
    name = unplaced_text t.name;
    interfaces = map unplaced_text t.interfaces;
    directives = unplaced_directives t.directives;
    fields = map (unplaced_node unplaced_field_definition) t.fields;
  }

  abbrev pub unplaced_union : UnionParts P → UnionParts (Unit {0})
  unplaced_union u = record { name = unplaced_text u.name; directives = unplaced_directives u.directives; members = map unplaced_text u.members }

  abbrev pub unplaced_enum : EnumParts P → EnumParts (Unit {0})
  unplaced_enum e = record { name = unplaced_text e.name; directives = unplaced_directives e.directives; values = map (unplaced_node unplaced_enum_value) e.values }

  abbrev pub unplaced_input_object : InputObjectParts P → InputObjectParts (Unit {0})
  unplaced_input_object i = record { name = unplaced_text i.name; directives = unplaced_directives i.directives; fields = map (unplaced_node unplaced_input_value) i.fields }
