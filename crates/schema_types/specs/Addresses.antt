-- Addresses of the parts of a schema, wherever they are written: rules tell addresses, and the place of a fault is looked up from them.
use Rattle.std.specs.Prelude.{ℕ, Bool, false, List, [], map, Option, None, slice_get}
use Rattle.std.specs.List.{find}
use Rattle.std.specs.Option.{option_map, option_map_or}
use Rattle.std.specs.Str.{bytes_eq}
use Rattle.graphql_names.specs.Places.{is_built_in}
use Rattle.graphql_names.specs.Placed.{Placed, Place, Text}
use Rattle.schema_components.specs.in_literals.TypeTree.{TypeTree, NamedTree, NonNullNamedTree, ListTree, NonNullListTree}
use Rattle.schema_components.specs.in_directives.DirectiveTree.{DirectiveTree, Directives, ArgumentTree, InputValueTree, InputValues, DirectiveDefinitionTree}
use Rattle.schema_components.specs.in_operations.in_directives.declared.operation_type.OperationType.{OperationType}
use Rattle.schema_components.specs.in_operations.in_directives.declared.operation_type.OperationType.TheVariants as operation
use Rattle.spec_tree.specs.in_type_members.TypeSystemTree.{FieldDefinitionTree, EnumValueTree}
use Rattle.schema_components.specs.Names.{Entries}
use Rattle.schema_components.specs.Given.{Given, given_name}
use Rattle.schema_components.specs.Applied.{Applied}
use Rattle.schema_types.specs.SchemaTree.{SchemaType, SchemaTree}

pub data Address : Type 0 where
  -- the schema definition, and the name of its root for an operation
  SchemaAt : Address
  RootAt : OperationType → Address
  -- definitions by name
  DirectiveDefinitionAt : (name : List ℕ) → Address
  TypeAt : (type : List ℕ) → Address
  -- the names that a type lists
  ImplementsAt : (type interface : List ℕ) → Address
  MemberAt : (type member : List ℕ) → Address
  -- the fields, values and input fields of a type, by name
  FieldAt : (type field : List ℕ) → Address
  ValueAt : (type value : List ℕ) → Address
  InputAt : (type field : List ℕ) → Address
  -- the argument definition at an index of a field or directive definition
  ArgumentAt : (holder : Address) (index : ℕ) → Address
  -- of the definition at an address: its name; its type reference, if that has a place, and the name inside it; its default value
  NameAt : (holder : Address) → Address
  TypeReferenceAt : (holder : Address) → Address
  TypeNameAt : (holder : Address) → Address
  DefaultAt : (holder : Address) → Address
  -- the directive that is applied at an address, by its index; the argument that is given to it, by its index, and that argument's value
  DirectiveAt : (holder : Address) (index : ℕ) → Address
  GivenAt : (directive : Address) (index : ℕ) → Address
  GivenValueAt : (given : Address) → Address

-- the first value under the name
abbrev pub under : {V : Type 0} → List ℕ → Entries V → Option V
under n es = option_map (λ e. e.1) (find (λ e. bytes_eq n e.0) es)

abbrev pub or_nothing : {A : Type 0} → Option (Option A) → Option A
or_nothing o = option_map_or (λ x. x) o None

abbrev pub place_of : {A : Type 0} → Option (Placed Place A) → Place
place_of o = or_nothing (option_map (λ x. x.place) o)

-- the place of the name inside a reference to a type
abbrev pub inner_name_place : TypeTree Place → Place
inner_name_place (NamedTree n) = n.place
inner_name_place (NonNullNamedTree n) = n.place
inner_name_place (ListTree t) = inner_name_place t
inner_name_place (NonNullListTree t) = inner_name_place t

module _ (s : SchemaTree Place) where
  abbrev pub type_at : List ℕ → Option (SchemaType Place)
  type_at n = under n s.types

  -- what the type named n has under the name m
  abbrev pub in_type : {V : Type 0} → (SchemaType Place → Entries (Given Place V)) → List ℕ → List ℕ → Option V
  in_type of n m = or_nothing (option_map (λ t. option_map (λ g. g.it) (under m (of t))) (type_at n))

  -- the name m as the type named n lists it
  abbrev pub listed : (SchemaType Place → List (Given Place (Text Place))) → List ℕ → List ℕ → Option (Text Place)
  listed of n m = or_nothing (option_map (λ t. option_map (λ g. g.it) (find (λ g. bytes_eq m (given_name g)) (of t))) (type_at n))

  abbrev pub directive_definition_at : List ℕ → Option (Placed Place (DirectiveDefinitionTree Place))
  directive_definition_at n = under n s.directives

  abbrev pub field_at : List ℕ → List ℕ → Option (Placed Place (FieldDefinitionTree Place))
  field_at = in_type (λ t. t.fields)

  abbrev pub value_at : List ℕ → List ℕ → Option (Placed Place (EnumValueTree Place))
  value_at = in_type (λ t. t.values)

  abbrev pub input_at : List ℕ → List ℕ → Option (Placed Place (InputValueTree Place))
  input_at = in_type (λ t. t.inputs)

  abbrev pub root_at : OperationType → Option (Text Place)
  root_at operation.Query = option_map (λ g. g.it) s.definition.query
  root_at operation.Mutation = option_map (λ g. g.it) s.definition.mutation
  root_at operation.Subscription = option_map (λ g. g.it) s.definition.subscription

  -- the argument definitions of the definition at an address
  abbrev pub arguments_at : Address → InputValues Place
  arguments_at (DirectiveDefinitionAt n) = option_map_or (λ d. d.it.arguments) (directive_definition_at n) []
  arguments_at (FieldAt n m) = option_map_or (λ f. f.it.arguments) (field_at n m) []
  arguments_at _ = []

  -- the argument definition or input field at an address
  abbrev pub input_value_at : Address → Option (Placed Place (InputValueTree Place))
  input_value_at (ArgumentAt holder i) = slice_get (arguments_at holder) i
  input_value_at (InputAt n m) = input_at n m
  input_value_at _ = None

  abbrev pub applied : Applied Place → Directives Place
  applied ds = map (λ g. g.it) ds

  -- the directives that are applied at an address
  abbrev pub directives_at : Address → Directives Place
  directives_at SchemaAt = applied s.definition.directives
  directives_at (DirectiveDefinitionAt n) = option_map_or (λ d. d.it.directives) (directive_definition_at n) []
  directives_at (TypeAt n) = option_map_or (λ t. applied t.directives) (type_at n) []
  directives_at (FieldAt n m) = option_map_or (λ f. f.it.directives) (field_at n m) []
  directives_at (ValueAt n m) = option_map_or (λ v. v.it.directives) (value_at n m) []
  directives_at (InputAt n m) = option_map_or (λ v. v.it.directives) (input_at n m) []
  directives_at (ArgumentAt holder i) = option_map_or (λ v. v.it.directives) (slice_get (arguments_at holder) i) []
  directives_at _ = []

  abbrev pub directive_at : Address → Option (Placed Place (DirectiveTree Place))
  directive_at (DirectiveAt holder i) = slice_get (directives_at holder) i
  directive_at _ = None

  abbrev pub given_at : Address → Option (Placed Place (ArgumentTree Place))
  given_at (GivenAt d i) = or_nothing (option_map (λ x. slice_get x.it.arguments i) (directive_at d))
  given_at _ = None

  -- the place of the name of the definition at an address
  abbrev pub name_place : Address → Place
  name_place (DirectiveDefinitionAt n) = or_nothing (option_map (λ d. d.it.name.place) (directive_definition_at n))
  name_place (TypeAt n) = or_nothing (option_map (λ t. t.name.place) (type_at n))
  name_place (FieldAt n m) = or_nothing (option_map (λ f. f.it.name.place) (field_at n m))
  name_place (ValueAt n m) = or_nothing (option_map (λ v. v.it.value.place) (value_at n m))
  name_place (InputAt n m) = or_nothing (option_map (λ v. v.it.name.place) (input_at n m))
  name_place (ArgumentAt holder i) = or_nothing (option_map (λ v. v.it.name.place) (slice_get (arguments_at holder) i))
  name_place _ = None

  -- the place of the name inside the type of the definition at an address
  abbrev pub type_name_place : Address → Place
  type_name_place (FieldAt n m) = or_nothing (option_map (λ f. inner_name_place f.it.ty) (field_at n m))
  type_name_place a = or_nothing (option_map (λ v. inner_name_place v.it.ty.it) (input_value_at a))

  -- the place of what is at an address
  abbrev pub place_at : Address → Place
  place_at SchemaAt = s.definition.place
  place_at (RootAt operation) = place_of (root_at operation)
  place_at (DirectiveDefinitionAt n) = place_of (directive_definition_at n)
  place_at (TypeAt n) = or_nothing (option_map (λ t. t.place) (type_at n))
  place_at (ImplementsAt n i) = place_of (listed (λ t. t.interfaces) n i)
  place_at (MemberAt n m) = place_of (listed (λ t. t.members) n m)
  place_at (FieldAt n m) = place_of (field_at n m)
  place_at (ValueAt n m) = place_of (value_at n m)
  place_at (InputAt n m) = place_of (input_at n m)
  place_at (ArgumentAt holder i) = place_of (slice_get (arguments_at holder) i)
  place_at (NameAt holder) = name_place holder
  place_at (TypeReferenceAt holder) = or_nothing (option_map (λ v. v.it.ty.place) (input_value_at holder))
  place_at (TypeNameAt holder) = type_name_place holder
  place_at (DefaultAt holder) = or_nothing (option_map (λ v. place_of v.it.default_value) (input_value_at holder))
  place_at (DirectiveAt holder i) = place_of (slice_get (directives_at holder) i)
  place_at (GivenAt d i) = place_of (given_at (GivenAt d i))
  place_at (GivenValueAt g) = or_nothing (option_map (λ x. x.it.value.place) (given_at g))

  -- the mark of an address: whether it is of a built-in type or directive definition, or of a field, argument, value or input field of one
  abbrev pub is_marked : Address → Bool
  is_marked (DirectiveDefinitionAt n) = is_built_in (place_at (DirectiveDefinitionAt n))
  is_marked (TypeAt n) = is_built_in (place_at (TypeAt n))
  is_marked (FieldAt n m) = is_built_in (place_at (FieldAt n m))
  is_marked (ValueAt n m) = is_built_in (place_at (ValueAt n m))
  is_marked (InputAt n m) = is_built_in (place_at (InputAt n m))
  is_marked (ArgumentAt holder i) = is_built_in (place_at (ArgumentAt holder i))
  is_marked _ = false
