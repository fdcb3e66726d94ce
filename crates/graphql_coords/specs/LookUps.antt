-- What a coordinate names in a schema, or why it names nothing.
use Rattle.std.specs.Prelude.{ℕ, ◌||◌, List, Result, Ok, Err, ok_or, find, if◌then◌else◌}
use Rattle.graphql_names.specs.Placed.{Placed, Place}
use Rattle.tree_directives.specs.DirectiveTree.{InputValueTree, DirectiveDefinitionTree}
use Rattle.tree_directives.specs.DirectiveQueries.{input_value_has_name}
use Rattle.tree_type_members.specs.TypeSystemTree.{FieldDefinitionTree, EnumValueTree}
use Rattle.tree_type_members.specs.ArgumentQueries.{argument_named}
use Rattle.schema_components.specs.Given.{Given}
use Rattle.graphql_schema.specs.in_schema_types.SchemaTree.{SchemaType, SchemaTree, same_kind}
use Rattle.graphql_schema.specs.in_schema_types.Addresses.{under, type_at}
use Rattle.graphql_schema.specs.in_schema_types.declared.type_kind.TypeKind.TheVariants.{Object, Interface, Enum, InputObject}

-- why nothing is found: a name that is missing or does not fit, or a type that has no attributes of the wanted kind
pub data LookupFault : Type 0 where
  MissingType : (name : List ℕ) → LookupFault
  MissingAttribute : (name : List ℕ) → LookupFault
  InvalidArgumentAttribute : (name : List ℕ) → LookupFault
  MissingArgument : (name : List ℕ) → LookupFault
  InvalidType : (type : SchemaType Place) → LookupFault

abbrev FieldOf : Type 0
FieldOf = Given Place (Placed Place (FieldDefinitionTree Place))

abbrev InputOf : Type 0
InputOf = Given Place (Placed Place (InputValueTree Place))

abbrev ValueOf : Type 0
ValueOf = Given Place (Placed Place (EnumValueTree Place))

abbrev ArgumentOf : Type 0
ArgumentOf = Placed Place (InputValueTree Place)

pub data Attribute : Type 0 where
  OfField : FieldOf → Attribute
  OfInputField : InputOf → Attribute
  OfEnumValue : ValueOf → Attribute

pub data Named : Type 0 where
  NamedType : SchemaType Place → Named
  NamedDirective : Placed Place (DirectiveDefinitionTree Place) → Named
  NamedAttribute : Attribute → Named
  NamedArgument : ArgumentOf → Named

-- like `Result::map`: f of what is found, and a fault is unchanged
abbrev pub found_as : {A B : Type 0} → (A → B) → Result A LookupFault → Result B LookupFault
found_as f (Ok x) = Ok (f x)
found_as f (Err e) = Err e

-- like `Result::and_then`: f continues with what is found, and a fault is unchanged
abbrev pub found_then : {A B : Type 0} → (A → Result B LookupFault) → Result A LookupFault → Result B LookupFault
found_then f (Ok x) = f x
found_then f (Err e) = Err e

-- a field, an input field and an enum value of a type: a type of a kind that has none of them is the fault `InvalidType`
abbrev pub field_in : List ℕ → SchemaType Place → Result FieldOf LookupFault
field_in a t = if same_kind t.kind Object || same_kind t.kind Interface then ok_or (under a t.fields) (MissingAttribute a) else Err (InvalidType t)

abbrev pub input_field_in : List ℕ → SchemaType Place → Result InputOf LookupFault
input_field_in a t = if same_kind t.kind InputObject then ok_or (under a t.inputs) (MissingAttribute a) else Err (InvalidType t)

abbrev pub enum_value_in : List ℕ → SchemaType Place → Result ValueOf LookupFault
enum_value_in a t = if same_kind t.kind Enum then ok_or (under a t.values) (MissingAttribute a) else Err (InvalidType t)

abbrev pub attribute_in : List ℕ → SchemaType Place → Result Attribute LookupFault
attribute_in a t =
    if same_kind t.kind InputObject then found_as OfInputField (input_field_in a t) else
    if same_kind t.kind Enum then found_as OfEnumValue (enum_value_in a t) else
    found_as OfField (field_in a t)

-- the argument of an attribute, which has to be a field
abbrev pub argument_in : List ℕ → List ℕ → Attribute → Result ArgumentOf LookupFault
argument_in f a (OfField g) = ok_or (argument_named a g.it.it.arguments) (MissingArgument a)
argument_in f a (OfInputField g) = Err (InvalidArgumentAttribute f)
argument_in f a (OfEnumValue g) = Err (InvalidArgumentAttribute f)

-- the argument of a directive
abbrev pub argument_of_directive : List ℕ → DirectiveDefinitionTree Place → Result ArgumentOf LookupFault
argument_of_directive a d = ok_or (find (input_value_has_name a) d.arguments) (MissingArgument a)

module _ (s : SchemaTree Place) where
  abbrev pub type_lookup : List ℕ → Result (SchemaType Place) LookupFault
  type_lookup n = ok_or (type_at s n) (MissingType n)

  abbrev pub attribute_lookup : List ℕ → List ℕ → Result Attribute LookupFault
  attribute_lookup n a = found_then (attribute_in a) (type_lookup n)

  abbrev pub field_lookup : List ℕ → List ℕ → Result FieldOf LookupFault
  field_lookup n a = found_then (field_in a) (type_lookup n)

  abbrev pub input_field_lookup : List ℕ → List ℕ → Result InputOf LookupFault
  input_field_lookup n a = found_then (input_field_in a) (type_lookup n)

  abbrev pub enum_value_lookup : List ℕ → List ℕ → Result ValueOf LookupFault
  enum_value_lookup n a = found_then (enum_value_in a) (type_lookup n)

  abbrev pub argument_lookup : List ℕ → List ℕ → List ℕ → Result ArgumentOf LookupFault
  argument_lookup n f a = found_then (argument_in f a) (attribute_lookup n f)

  abbrev pub directive_lookup : List ℕ → Result (Placed Place (DirectiveDefinitionTree Place)) LookupFault
  directive_lookup d = ok_or (under d s.directives) (MissingType d)

  abbrev pub directive_argument_lookup : List ℕ → List ℕ → Result ArgumentOf LookupFault
  directive_argument_lookup d a = found_then (λ x. argument_of_directive a x.it) (directive_lookup d)
