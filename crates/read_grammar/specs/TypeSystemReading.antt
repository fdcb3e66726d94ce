-- Private: leads to `Derives` and `Says`. How the type system is read.
use Rattle.std.specs.Prelude.{ℕ, zero, suc, List}
use Rattle.graphql_names.specs.Placed.{Placed, Text}
use Rattle.graphql_ast.specs.in_directives.DirectiveTree.{InputValueTree, InputValues, DirectiveDefinitionTree}
use Rattle.graphql_ast.specs.in_directives.declared.directive_location.DirectiveLocation.{DirectiveLocation}
use Rattle.graphql_ast.specs.in_type_members.TypeSystemTree.{FieldDefinitionTree, EnumValueTree, RootOperationTree, SchemaParts, ScalarParts, FieldsParts, UnionParts, EnumParts, InputObjectParts}
use Rattle.read_grammar.specs.Meaning.{Meaning, text_of}
use Rattle.read_grammar.specs.Kinds.{is_string, is_colon, is_at, is_equals, is_ampersand, is_pipe, is_on, is_location, is_repeatable, is_implements, is_schema, is_scalar, is_type, is_interface, is_union, is_enum, is_input, is_directive, is_operation_type, is_open_brace, is_close_brace, is_open_paren, is_close_paren}
use Rattle.read_grammar.specs.Begins.{begins_described_name}
use Rattle.read_grammar.specs.Locations.{location_of}
use Rattle.read_grammar.specs.ValueGrammar.{constant}
use Rattle.read_grammar.specs.TypeSystemGrammar.{KindTree, ScalarKind, ObjectKind, InterfaceKind, UnionKind, EnumKind, InputObjectKind, root_of, schema_of, schema_extension_of, input_value_of, field_definition_of, enum_value_definition_of, scalar_of, fields_of, union_of, enum_of, input_object_of, directive_definition_of}
use Rattle.read_grammar.specs.Reading.{Parser, take, mark, when, try, refuse, too_deep, some, between, separated, placed, ◌⊙◌, ◌<&>◌}
use Rattle.read_grammar.specs.ValueReading.{name, enum_value, default_value, directives, type}
use Rattle.read_grammar.specs.OperationReading.{operation_type}

unfoldable pub directive_location : Parser DirectiveLocation
directive_location = (λ t. location_of t.text) <&> take is_location

unfoldable pub directive_locations : Parser (List DirectiveLocation)
directive_locations = separated is_pipe directive_location

module _ {P : Type 0} (m : Meaning P) where
  unfoldable pub description : Parser (Text P)
  description = text_of m <&> take is_string

  unfoldable pub root_operation_type_definition : Parser (RootOperationTree P)
  root_operation_type_definition = root_of <&> operation_type ⊙ mark is_colon ⊙ name m

  unfoldable pub roots : ℕ → Parser (List (Placed P (RootOperationTree P)))
  roots zero = when is_open_brace too_deep refuse
  roots (suc n) = between is_open_brace (some is_operation_type (placed m root_operation_type_definition)) is_close_brace

  unfoldable pub schema_definition : ℕ → Parser (SchemaParts P)
  schema_definition n = schema_of <&> mark is_schema ⊙ try is_at (directives m constant n) ⊙ roots n

  unfoldable pub scalar_type : ℕ → Parser (ScalarParts P)
  scalar_type n = scalar_of <&> mark is_scalar ⊙ name m ⊙ try is_at (directives m constant n)

  unfoldable pub implements_interfaces : Parser (List (Text P))
  implements_interfaces = (λ x. x.1) <&> mark is_implements ⊙ separated is_ampersand (name m)

  unfoldable pub input_value_definition : ℕ → Parser (InputValueTree P)
  input_value_definition n =
      input_value_of
      <&> try is_string description ⊙ name m ⊙ mark is_colon ⊙ placed m (type m n) ⊙ try is_equals (default_value m n) ⊙ try is_at (directives m constant n)

  unfoldable pub arguments_definition : ℕ → Parser (InputValues P)
  arguments_definition zero = when is_open_paren too_deep refuse
  arguments_definition (suc n) = between is_open_paren (some begins_described_name (placed m (input_value_definition n))) is_close_paren

  unfoldable pub field_definition : ℕ → Parser (FieldDefinitionTree P)
  field_definition n =
      field_definition_of
      <&> try is_string description ⊙ name m ⊙ try is_open_paren (arguments_definition n) ⊙ mark is_colon ⊙ type m n ⊙ try is_at (directives m constant n)

  unfoldable pub fields_definition : ℕ → Parser (List (Placed P (FieldDefinitionTree P)))
  fields_definition zero = when is_open_brace too_deep refuse
  fields_definition (suc n) = between is_open_brace (some begins_described_name (placed m (field_definition n))) is_close_brace

  unfoldable pub object_type : ℕ → Parser (FieldsParts P)
  object_type n =
      fields_of
      <&> mark is_type ⊙ name m ⊙ try is_implements implements_interfaces ⊙ try is_at (directives m constant n) ⊙ try is_open_brace (fields_definition n)

  unfoldable pub interface_type : ℕ → Parser (FieldsParts P)
  interface_type n =
      fields_of
      <&> mark is_interface ⊙ name m ⊙ try is_implements implements_interfaces ⊙ try is_at (directives m constant n) ⊙ try is_open_brace (fields_definition n)

  unfoldable pub union_member_types : Parser (List (Text P))
  union_member_types = (λ x. x.1) <&> mark is_equals ⊙ separated is_pipe (name m)

  unfoldable pub union_type : ℕ → Parser (UnionParts P)
  union_type n = union_of <&> mark is_union ⊙ name m ⊙ try is_at (directives m constant n) ⊙ try is_equals union_member_types

  unfoldable pub enum_value_definition : ℕ → Parser (EnumValueTree P)
  enum_value_definition n = enum_value_definition_of <&> try is_string description ⊙ enum_value m ⊙ try is_at (directives m constant n)

  unfoldable pub enum_values_definition : ℕ → Parser (List (Placed P (EnumValueTree P)))
  enum_values_definition zero = when is_open_brace too_deep refuse
  enum_values_definition (suc n) = between is_open_brace (some begins_described_name (placed m (enum_value_definition n))) is_close_brace

  unfoldable pub enum_type : ℕ → Parser (EnumParts P)
  enum_type n = enum_of <&> mark is_enum ⊙ name m ⊙ try is_at (directives m constant n) ⊙ try is_open_brace (enum_values_definition n)

  unfoldable pub input_fields_definition : ℕ → Parser (InputValues P)
  input_fields_definition zero = when is_open_brace too_deep refuse
  input_fields_definition (suc n) = between is_open_brace (some begins_described_name (placed m (input_value_definition n))) is_close_brace

  unfoldable pub input_object_type : ℕ → Parser (InputObjectParts P)
  input_object_type n = input_object_of <&> mark is_input ⊙ name m ⊙ try is_at (directives m constant n) ⊙ try is_open_brace (input_fields_definition n)

  unfoldable pub type_definition : ℕ → Parser (KindTree P)
  type_definition n =
      when is_scalar (ScalarKind <&> scalar_type n)
      (when is_type (ObjectKind <&> object_type n)
      (when is_interface (InterfaceKind <&> interface_type n)
      (when is_union (UnionKind <&> union_type n)
      (when is_enum (EnumKind <&> enum_type n) (when is_input (InputObjectKind <&> input_object_type n) refuse)))))

  unfoldable pub directive_definition : ℕ → Parser (DirectiveDefinitionTree P)
  directive_definition n =
      directive_definition_of
      <&> mark is_directive ⊙ mark is_at ⊙ name m ⊙ try is_open_paren (arguments_definition n) ⊙ try is_at (directives m constant n) ⊙ try is_repeatable (mark is_repeatable) ⊙ mark is_on ⊙ directive_locations

  unfoldable pub schema_extension : ℕ → Parser (SchemaParts P)
  schema_extension n = schema_extension_of <&> mark is_schema ⊙ try is_at (directives m constant n) ⊙ try is_open_brace (roots n)
