-- A schema as a plain tree with order, places and origins: what it has of each type, directive and root (GraphQL, October 2021, section 3).
use Rattle.std.specs.Prelude.{ℕ, Bool, ◌==◌, ◌||◌, not, List, Option, codes}
use Rattle.graphql_names.specs.Placed.{Placed, Text}
use Rattle.schema_components.specs.in_directives.DirectiveTree.{InputValueTree, DirectiveDefinitionTree}
use Rattle.spec_tree.specs.in_type_members.TypeSystemTree.{FieldDefinitionTree, EnumValueTree}
use Rattle.schema_components.specs.Names.{Entries}
use Rattle.schema_components.specs.Given.{Given}
use Rattle.schema_components.specs.Applied.{Applied}
use Rattle.schema_types.specs.declared.type_kind.TypeKind.{TypeKind}
use Rattle.schema_types.specs.declared.type_kind.TypeKind.TheVariants.{Scalar, Object, Interface, Union, Enum, InputObject}

abbrev pub kind_number : TypeKind → ℕ
kind_number Scalar = 0
kind_number Object = 1
kind_number Interface = 2
kind_number Union = 3
kind_number Enum = 4
kind_number InputObject = 5

abbrev pub same_kind : TypeKind → TypeKind → Bool
same_kind a b = kind_number a == kind_number b

-- scalars and enums: their values have no parts
abbrev pub is_leaf_kind : TypeKind → Bool
is_leaf_kind k = same_kind k Scalar || same_kind k Enum

-- IsInputType and IsOutputType (section 3.4.2)
abbrev pub is_input_kind : TypeKind → Bool
is_input_kind k = is_leaf_kind k || same_kind k InputObject

abbrev pub is_output_kind : TypeKind → Bool
is_output_kind k = not (same_kind k InputObject)

-- a kind in words
abbrev pub kind_words : TypeKind → List ℕ
kind_words Scalar = codes "a scalar type"
kind_words Object = codes "an object type"
kind_words Interface = codes "an interface type"
kind_words Union = codes "a union type"
kind_words Enum = codes "an enum type"
kind_words InputObject = codes "an input object type"

-- a type of any kind: its interfaces, fields, members, values and input fields are empty if its kind has none
pub record SchemaType (P : Type 0) : Type 0 where
  pub kind : TypeKind
  pub place : P
  pub description : Option (Text P)
  pub name : Text P
  pub directives : Applied P
  pub interfaces : List (Given P (Text P))
  pub fields : Entries (Given P (Placed P (FieldDefinitionTree P)))
  pub members : List (Given P (Text P))
  pub values : Entries (Given P (Placed P (EnumValueTree P)))
  pub inputs : Entries (Given P (Placed P (InputValueTree P)))

-- the schema definition; a root that it does not have is `None`
pub record SchemaRoots (P : Type 0) : Type 0 where
  pub place : P
  pub description : Option (Text P)
  pub directives : Applied P
  pub query : Option (Given P (Text P))
  pub mutation : Option (Given P (Text P))
  pub subscription : Option (Given P (Text P))

-- a schema: its schema definition, and under their names its directive definitions and types, in order
pub record SchemaTree (P : Type 0) : Type 0 where
  pub definition : SchemaRoots P
  pub directives : Entries (Placed P (DirectiveDefinitionTree P))
  pub types : Entries (SchemaType P)
