-- What the definition of a type, or an extension of one, gives: one record for all kinds (GraphQL, October 2021, section 3.4).
use Rattle.std.specs.Prelude.{List, [], Option, None, Some}
use Rattle.graphql_names.specs.Placed.{Placed, Text}
use Rattle.schema_components.specs.in_directives.DirectiveTree.{Directives, InputValues}
use Rattle.spec_tree.specs.in_type_members.TypeSystemTree.{FieldDefinitionTree, EnumValueTree, ScalarParts, FieldsParts, UnionParts, EnumParts, InputObjectParts}
use Rattle.spec_tree.specs.DefinitionTree as tree
use Rattle.spec_tree.specs.DefinitionTree.{DefinitionTree}
use Rattle.schema_types.specs.declared.type_kind.TypeKind.{TypeKind}
use Rattle.schema_types.specs.declared.type_kind.TypeKind.TheVariants.{Scalar, Object, Interface, Union, Enum, InputObject}

-- interfaces, fields, members, values and input fields are empty if the kind has none
pub record TypeParts (P : Type 0) : Type 0 where
  pub kind : TypeKind
  pub name : Text P
  pub directives : Directives P
  pub interfaces : List (Text P)
  pub fields : List (Placed P (FieldDefinitionTree P))
  pub members : List (Text P)
  pub values : List (Placed P (EnumValueTree P))
  pub inputs : InputValues P

-- the definition of a type
pub record TypeDefinition (P : Type 0) : Type 0 where
  pub place : P
  pub description : Option (Text P)
  pub parts : TypeParts P

module _ {P : Type 0} where
  -- parts with a name and directives alone
  abbrev pub bare : TypeKind → Text P → Directives P → TypeParts P
  bare kind name directives = record { kind = kind; name = name; directives = directives; interfaces = []; fields = []; members = []; values = []; inputs = [] }

  abbrev pub scalar : ScalarParts P → TypeParts P
  scalar t = bare Scalar t.name t.directives

  abbrev pub with_fields : TypeKind → FieldsParts P → TypeParts P
  with_fields kind t = record (bare kind t.name t.directives) { interfaces = t.interfaces; fields = t.fields }

  abbrev pub union : UnionParts P → TypeParts P
  union t = record (bare Union t.name t.directives) { members = t.members }

  abbrev pub enum : EnumParts P → TypeParts P
  enum t = record (bare Enum t.name t.directives) { values = t.values }

  abbrev pub input_object : InputObjectParts P → TypeParts P
  input_object t = record (bare InputObject t.name t.directives) { inputs = t.fields }

  -- the type that is defined here, if one is
  abbrev pub type_here : DefinitionTree P → Option (TypeDefinition P)
  type_here (tree.ScalarType p d t) = Some (record { place = p; description = d; parts = scalar t })
  type_here (tree.ObjectType p d t) = Some (record { place = p; description = d; parts = with_fields Object t })
  type_here (tree.InterfaceType p d t) = Some (record { place = p; description = d; parts = with_fields Interface t })
  type_here (tree.UnionType p d t) = Some (record { place = p; description = d; parts = union t })
  type_here (tree.EnumType p d t) = Some (record { place = p; description = d; parts = enum t })
  type_here (tree.InputObjectType p d t) = Some (record { place = p; description = d; parts = input_object t })
  type_here _ = None

  -- the parts of the type extension here, if there is one
  abbrev pub type_extension_here : DefinitionTree P → Option (TypeParts P)
  type_extension_here (tree.ExtendScalar p t) = Some (scalar t)
  type_extension_here (tree.ExtendObject p t) = Some (with_fields Object t)
  type_extension_here (tree.ExtendInterface p t) = Some (with_fields Interface t)
  type_extension_here (tree.ExtendUnion p t) = Some (union t)
  type_extension_here (tree.ExtendEnum p t) = Some (enum t)
  type_extension_here (tree.ExtendInputObject p t) = Some (input_object t)
  type_extension_here _ = None

  abbrev pub fields_parts : TypeParts P → FieldsParts P
  fields_parts t = record { name = t.name; interfaces = t.interfaces; directives = t.directives; fields = t.fields }

  -- the definition of a type of some kind
  abbrev pub definition_by : TypeKind → P → Option (Text P) → TypeParts P → DefinitionTree P
  definition_by Scalar p d t = tree.ScalarType p d (record { name = t.name; directives = t.directives })
  definition_by Object p d t = tree.ObjectType p d (fields_parts t)
  definition_by Interface p d t = tree.InterfaceType p d (fields_parts t)
  definition_by Union p d t = tree.UnionType p d (record { name = t.name; directives = t.directives; members = t.members })
  definition_by Enum p d t = tree.EnumType p d (record { name = t.name; directives = t.directives; values = t.values })
  definition_by InputObject p d t = tree.InputObjectType p d (record { name = t.name; directives = t.directives; fields = t.inputs })

  -- an extension of a type of some kind
  abbrev pub extension_by : TypeKind → P → TypeParts P → DefinitionTree P
  extension_by Scalar p t = tree.ExtendScalar p (record { name = t.name; directives = t.directives })
  extension_by Object p t = tree.ExtendObject p (fields_parts t)
  extension_by Interface p t = tree.ExtendInterface p (fields_parts t)
  extension_by Union p t = tree.ExtendUnion p (record { name = t.name; directives = t.directives; members = t.members })
  extension_by Enum p t = tree.ExtendEnum p (record { name = t.name; directives = t.directives; values = t.values })
  extension_by InputObject p t = tree.ExtendInputObject p (record { name = t.name; directives = t.directives; fields = t.inputs })
