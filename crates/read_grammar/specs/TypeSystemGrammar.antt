-- The grammar of the type system (GraphQL, October 2021, appendix B): a rule for each symbol.
use Rattle.std.specs.Prelude.{ℕ, zero, suc, List, [], Option, None, unwrap_or, is_some}
use Rattle.graphql_names.specs.Placed.{Placed, Text}
use Rattle.graphql_ast.specs.in_literals.ValueTree.{ValueTree}
use Rattle.graphql_ast.specs.in_literals.TypeTree.{TypeTree}
use Rattle.graphql_ast.specs.in_directives.DirectiveTree.{Directives, InputValueTree, InputValues, DirectiveDefinitionTree}
use Rattle.graphql_ast.specs.in_directives.declared.operation_type.OperationType.{OperationType}
use Rattle.graphql_ast.specs.in_directives.declared.directive_location.DirectiveLocation.{DirectiveLocation}
use Rattle.graphql_ast.specs.in_type_members.TypeSystemTree.{FieldDefinitionTree, EnumValueTree, RootOperationTree, SchemaParts, ScalarParts, FieldsParts, UnionParts, EnumParts, InputObjectParts}
use Rattle.read_grammar.specs.Meaning.{Meaning, text_of}
use Rattle.read_grammar.specs.Kinds.{is_string, is_colon, is_at, is_equals, is_ampersand, is_pipe, is_on, is_location, is_repeatable, is_implements, is_schema, is_scalar, is_type, is_interface, is_union, is_enum, is_input, is_directive, is_open_brace, is_close_brace, is_open_paren, is_close_paren}
use Rattle.read_grammar.specs.Locations.{location_of}
use Rattle.read_grammar.specs.Rules.{Rule, one, mark, ◌·◌, ◌<$>◌, ◌∣◌, nothing, optional, optional_unless, some, between, separated, placed}
use Rattle.read_grammar.specs.ValueGrammar.{constant, name, enum_value, default_value, directives, type}
use Rattle.read_grammar.specs.OperationGrammar.{operation_type}

-- ---- the trees that the rules build

-- what a definition of a schema or a type says after its description, and an extension after `extend`
pub data KindTree (P : Type 0) : Type 0 where
  SchemaKind : SchemaParts P → KindTree P
  ScalarKind : ScalarParts P → KindTree P
  ObjectKind : FieldsParts P → KindTree P
  InterfaceKind : FieldsParts P → KindTree P
  UnionKind : UnionParts P → KindTree P
  EnumKind : EnumParts P → KindTree P
  InputObjectKind : InputObjectParts P → KindTree P

abbrev pub Roots : Type 0 → Type 0
Roots P = List (Placed P (RootOperationTree P))

abbrev pub Fields : Type 0 → Type 0
Fields P = List (Placed P (FieldDefinitionTree P))

abbrev pub Values : Type 0 → Type 0
Values P = List (Placed P (EnumValueTree P))

module _ {P : Type 0} where
  abbrev pub root_of : OperationType × (Unit {0} × Text P) → RootOperationTree P
  root_of x = record { operation_type = x.0; name = x.1.1 }

  abbrev pub schema_of : Unit {0} × (Option (Directives P) × Roots P) → SchemaParts P
  schema_of x = record { directives = unwrap_or x.1.0 []; roots = x.1.1 }

  abbrev pub schema_extension_of : Unit {0} × (Option (Directives P) × Option (Roots P)) → SchemaParts P
  schema_extension_of x = record { directives = unwrap_or x.1.0 []; roots = unwrap_or x.1.1 [] }

  abbrev pub input_value_of : Option (Text P) × (Text P × (Unit {0} × (Placed P (TypeTree P) × (Option (Placed P (ValueTree P)) × Option (Directives P))))) → InputValueTree P
  input_value_of x = record {
    description = x.0;
    name = x.1.0;
    ty = x.1.1.1.0;
    default_value = x.1.1.1.1.0;
    directives = unwrap_or x.1.1.1.1.1 [];
  }

  abbrev pub field_definition_of : Option (Text P) × (Text P × (Option (InputValues P) × (Unit {0} × (TypeTree P × Option (Directives P))))) → FieldDefinitionTree P
  field_definition_of x = record {
    description = x.0;
    name = x.1.0;
    arguments = unwrap_or x.1.1.0 [];
    ty = x.1.1.1.1.0;
    directives = unwrap_or x.1.1.1.1.1 [];
  }

  abbrev pub enum_value_definition_of : Option (Text P) × (Text P × Option (Directives P)) → EnumValueTree P
  enum_value_definition_of x = record { description = x.0; value = x.1.0; directives = unwrap_or x.1.1 [] }

  abbrev pub scalar_of : Unit {0} × (Text P × Option (Directives P)) → ScalarParts P
  scalar_of x = record { name = x.1.0; directives = unwrap_or x.1.1 [] }

  abbrev pub fields_of : Unit {0} × (Text P × (Option (List (Text P)) × (Option (Directives P) × Option (Fields P)))) → FieldsParts P
  fields_of x = record { name = x.1.0; interfaces = unwrap_or x.1.1.0 []; directives = unwrap_or x.1.1.1.0 []; fields = unwrap_or x.1.1.1.1 [] }

  abbrev pub union_of : Unit {0} × (Text P × (Option (Directives P) × Option (List (Text P)))) → UnionParts P
  union_of x = record { name = x.1.0; directives = unwrap_or x.1.1.0 []; members = unwrap_or x.1.1.1 [] }

  abbrev pub enum_of : Unit {0} × (Text P × (Option (Directives P) × Option (Values P))) → EnumParts P
  enum_of x = record { name = x.1.0; directives = unwrap_or x.1.1.0 []; values = unwrap_or x.1.1.1 [] }

  abbrev pub input_object_of : Unit {0} × (Text P × (Option (Directives P) × Option (InputValues P))) → InputObjectParts P
  input_object_of x = record { name = x.1.0; directives = unwrap_or x.1.1.0 []; fields = unwrap_or x.1.1.1 [] }

  -- without its description
  abbrev pub directive_definition_of : Unit {0} × (Unit {0} × (Text P × (Option (InputValues P) × (Option (Directives P) × (Option (Unit {0}) × (Unit {0} × List DirectiveLocation)))))) → DirectiveDefinitionTree P
  directive_definition_of x = record {
    description = None;
    name = x.1.1.0;
    arguments = unwrap_or x.1.1.1.0 [];
    directives = unwrap_or x.1.1.1.1.0 [];
    repeatable = is_some x.1.1.1.1.1.0;
    locations = x.1.1.1.1.1.1.1;
  }

-- ---- the rules

-- DirectiveLocations: "|"? DirectiveLocation ("|" DirectiveLocation)*
unfoldable pub directive_locations : Rule (List DirectiveLocation)
directive_locations = separated is_pipe ((λ t. location_of t.text) <$> one is_location)

module _ {P : Type 0} (m : Meaning P) where
  -- Description: StringValue
  abbrev pub description : Rule (Text P)
  description = text_of m <$> one is_string

  -- RootOperationTypeDefinition: OperationType ":" Name
  unfoldable pub root_operation_type_definition : Rule (RootOperationTree P)
  root_operation_type_definition = root_of <$> operation_type · mark is_colon · name m

  -- "{" RootOperationTypeDefinition+ "}"
  unfoldable pub roots : ℕ → Rule (Roots P)
  roots zero = nothing
  roots (suc n) = between is_open_brace (some (placed m root_operation_type_definition)) is_close_brace

  -- SchemaDefinition, after its description: "schema" Directives[Const]? Roots
  unfoldable pub schema_definition : ℕ → Rule (SchemaParts P)
  schema_definition n = schema_of <$> mark is_schema · optional (directives m constant n) · roots n

  -- ScalarTypeDefinition: "scalar" Name Directives[Const]?
  unfoldable pub scalar_type : ℕ → Rule (ScalarParts P)
  scalar_type n = scalar_of <$> mark is_scalar · name m · optional (directives m constant n)

  -- ImplementsInterfaces: "implements" "&"? Name ("&" Name)*
  unfoldable pub implements_interfaces : Rule (List (Text P))
  implements_interfaces = (λ x. x.1) <$> mark is_implements · separated is_ampersand (name m)

  -- InputValueDefinition: Description? Name ":" Type DefaultValue? Directives[Const]?
  unfoldable pub input_value_definition : ℕ → Rule (InputValueTree P)
  input_value_definition n =
      input_value_of <$> optional description · name m · mark is_colon · placed m (type m n) · optional (default_value m n) · optional (directives m constant n)

  -- ArgumentsDefinition: "(" InputValueDefinition+ ")"
  unfoldable pub arguments_definition : ℕ → Rule (InputValues P)
  arguments_definition zero = nothing
  arguments_definition (suc n) = between is_open_paren (some (placed m (input_value_definition n))) is_close_paren

  -- FieldDefinition: Description? Name ArgumentsDefinition? ":" Type Directives[Const]?
  unfoldable pub field_definition : ℕ → Rule (FieldDefinitionTree P)
  field_definition n =
      field_definition_of <$> optional description · name m · optional (arguments_definition n) · mark is_colon · type m n · optional (directives m constant n)

  -- FieldsDefinition: "{" FieldDefinition+ "}"
  unfoldable pub fields_definition : ℕ → Rule (Fields P)
  fields_definition zero = nothing
  fields_definition (suc n) = between is_open_brace (some (placed m (field_definition n))) is_close_brace

  -- ObjectTypeDefinition: "type" Name ImplementsInterfaces? Directives[Const]? FieldsDefinition?
  unfoldable pub object_type : ℕ → Rule (FieldsParts P)
  object_type n =
      fields_of <$> mark is_type · name m · optional implements_interfaces · optional (directives m constant n) · optional_unless is_open_brace (fields_definition n)

  -- InterfaceTypeDefinition: "interface" Name ImplementsInterfaces? Directives[Const]? FieldsDefinition?
  unfoldable pub interface_type : ℕ → Rule (FieldsParts P)
  interface_type n =
      fields_of <$> mark is_interface · name m · optional implements_interfaces · optional (directives m constant n) · optional_unless is_open_brace (fields_definition n)

  -- UnionMemberTypes: "=" "|"? Name ("|" Name)*
  unfoldable pub union_member_types : Rule (List (Text P))
  union_member_types = (λ x. x.1) <$> mark is_equals · separated is_pipe (name m)

  -- UnionTypeDefinition: "union" Name Directives[Const]? UnionMemberTypes?
  unfoldable pub union_type : ℕ → Rule (UnionParts P)
  union_type n = union_of <$> mark is_union · name m · optional (directives m constant n) · optional union_member_types

  -- EnumValueDefinition: Description? EnumValue Directives[Const]?
  unfoldable pub enum_value_definition : ℕ → Rule (EnumValueTree P)
  enum_value_definition n = enum_value_definition_of <$> optional description · enum_value m · optional (directives m constant n)

  -- EnumValuesDefinition: "{" EnumValueDefinition+ "}"
  unfoldable pub enum_values_definition : ℕ → Rule (Values P)
  enum_values_definition zero = nothing
  enum_values_definition (suc n) = between is_open_brace (some (placed m (enum_value_definition n))) is_close_brace

  -- EnumTypeDefinition: "enum" Name Directives[Const]? EnumValuesDefinition?
  unfoldable pub enum_type : ℕ → Rule (EnumParts P)
  enum_type n = enum_of <$> mark is_enum · name m · optional (directives m constant n) · optional_unless is_open_brace (enum_values_definition n)

  -- InputFieldsDefinition: "{" InputValueDefinition+ "}"
  unfoldable pub input_fields_definition : ℕ → Rule (InputValues P)
  input_fields_definition zero = nothing
  input_fields_definition (suc n) = between is_open_brace (some (placed m (input_value_definition n))) is_close_brace

  -- InputObjectTypeDefinition: "input" Name Directives[Const]? InputFieldsDefinition?
  unfoldable pub input_object_type : ℕ → Rule (InputObjectParts P)
  input_object_type n = input_object_of <$> mark is_input · name m · optional (directives m constant n) · optional_unless is_open_brace (input_fields_definition n)

  -- TypeDefinition, after its description: "scalar" .. / "type" .. / "interface" .. / "union" .. / "enum" .. / "input" ..
  unfoldable pub type_definition : ℕ → Rule (KindTree P)
  type_definition n =
      ScalarKind <$> scalar_type n
      ∣ ObjectKind <$> object_type n
      ∣ InterfaceKind <$> interface_type n
      ∣ UnionKind <$> union_type n
      ∣ EnumKind <$> enum_type n
      ∣ InputObjectKind <$> input_object_type n

  -- Laxer: October 2021 has no directives here
  -- DirectiveDefinition, after its description: "directive" "@" Name ArgumentsDefinition? Directives[Const]? "repeatable"? "on" DirectiveLocations
  unfoldable pub directive_definition : ℕ → Rule (DirectiveDefinitionTree P)
  directive_definition n =
      directive_definition_of <$> mark is_directive · mark is_at · name m · optional (arguments_definition n) · optional (directives m constant n) · optional (mark is_repeatable) · mark is_on · directive_locations

  -- SchemaExtension, after "extend": "schema" Directives[Const]? Roots?
  unfoldable pub schema_extension : ℕ → Rule (SchemaParts P)
  schema_extension n = schema_extension_of <$> mark is_schema · optional (directives m constant n) · optional_unless is_open_brace (roots n)
