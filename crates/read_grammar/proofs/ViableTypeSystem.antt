-- Where a parser of the type system stops, the tokens before begin some text of its rule.
use Rattle.std.proofs.Common.{ℕ, zero, suc, true, refl}
use Rattle.read_tokens.specs.declared.terminal.Terminal.TheVariants as k
use Rattle.read_grammar.specs.Meaning.{Meaning, text_of}
use Rattle.read_grammar.specs.Kinds.{is_string, is_colon, is_at, is_equals, is_ampersand, is_pipe, is_on, is_location, is_repeatable, is_implements, is_schema, is_scalar, is_type, is_interface, is_union, is_enum, is_input, is_directive, is_operation_type, is_open_brace, is_close_brace, is_open_paren, is_close_paren}
use Rattle.read_grammar.specs.Begins.{begins_described_name}
use Rattle.read_grammar.specs.Locations.{location_of}
use Rattle.read_grammar.specs.Rules.{lacks}
use Rattle.read_grammar.specs.TypeSystemGrammar as g
use Rattle.read_grammar.specs.TypeSystemGrammar.{ScalarKind, ObjectKind, InterfaceKind, UnionKind, EnumKind, InputObjectKind, root_of, schema_of, schema_extension_of, input_value_of, field_definition_of, enum_value_definition_of, scalar_of, fields_of, union_of, enum_of, input_object_of, directive_definition_of}
use Rattle.read_grammar.specs.TypeSystemReading as y
use Rattle.read_grammar.proofs.Tests.{Test, any}
use Rattle.read_grammar.proofs.Viable.{Viable, Fills, FillsFrom, token, mapped, mark, weaker, seq, alternative, only, maybe, maybe_unless, located, mapped_fills, mark_fills, seq_fills, located_fills, none_fills}
use Rattle.read_grammar.proofs.ViableLists.{one_or_more, separated, enclosed, none_deep, some_fills, enclosed_from}
use Rattle.read_grammar.proofs.ViableValues.{name_viable, enum_value_viable, type_viable, type_fills, default_value_viable, directives_viable}
use Rattle.read_grammar.proofs.ViableOperations.{operation_type_viable}

-- what may follow a definition that may end in braces or not
abbrev pub no_brace : Test
no_brace = lacks is_open_brace

pub directive_locations_viable : Viable true g.directive_locations y.directive_locations any
unfolding g.directive_locations y.directive_locations y.directive_location
directive_locations_viable = separated is_pipe k.Pipe refl (mapped (λ t. location_of t.text) (token is_location k.Location refl))

module _ {P : Type 0} (m : Meaning P) where
  pub description_viable : Viable true (g.description m) (y.description m) any
  unfolding y.description
  description_viable = mapped (text_of m) (token is_string k.String refl)

  pub root_viable : Viable true (g.root_operation_type_definition m) (y.root_operation_type_definition m) any
  unfolding g.root_operation_type_definition y.root_operation_type_definition
  root_viable = mapped root_of (seq operation_type_viable (seq (mark is_colon k.Colon refl) (name_viable m)))

  pub roots_from : (n : ℕ) → FillsFrom is_open_brace (g.roots m (suc n)) any
  unfolding g.roots
  roots_from n = enclosed_from is_open_brace is_close_brace k.CloseBrace refl (some_fills (located_fills m root_viable.fills))

  pub roots_viable : (n : ℕ) → Viable true (g.roots m (suc n)) (y.roots m n) any
  unfolding g.roots y.roots
  roots_viable zero = none_deep is_open_brace k.OpenBrace refl (roots_from zero)
  roots_viable (suc n) = enclosed is_open_brace is_close_brace k.OpenBrace k.CloseBrace refl refl (one_or_more is_operation_type (located m root_viable))

  pub schema_definition_viable : (n : ℕ) → Viable true (g.schema_definition m (suc n)) (y.schema_definition m n) any
  unfolding g.schema_definition y.schema_definition
  schema_definition_viable n = mapped schema_of (seq (mark is_schema k.Schema refl) (seq (maybe is_at (directives_viable m true n)) (roots_viable n)))

  pub scalar_type_viable : (n : ℕ) → Viable true (g.scalar_type m (suc n)) (y.scalar_type m n) any
  unfolding g.scalar_type y.scalar_type
  scalar_type_viable n = mapped scalar_of (seq (mark is_scalar k.Scalar refl) (seq (name_viable m) (maybe is_at (directives_viable m true n))))

  pub implements_interfaces_viable : Viable true (g.implements_interfaces m) (y.implements_interfaces m) any
  unfolding g.implements_interfaces y.implements_interfaces
  implements_interfaces_viable = mapped (λ x. x.1) (seq (mark is_implements k.Implements refl) (separated is_ampersand k.Ampersand refl (name_viable m)))

  pub input_value_definition_viable : (n : ℕ) → Viable true (g.input_value_definition m (suc n)) (y.input_value_definition m n) any
  unfolding g.input_value_definition y.input_value_definition
  input_value_definition_viable n =
      mapped input_value_of
      (seq (maybe is_string description_viable)
      (seq (name_viable m)
      (seq (mark is_colon k.Colon refl) (seq (located m (type_viable m n)) (seq (maybe is_equals (default_value_viable m n)) (maybe is_at (directives_viable m true n)))))))

  input_value_definition_fills : (n : ℕ) → Fills (g.input_value_definition m n) any
  unfolding g.input_value_definition
  input_value_definition_fills n =
      mapped_fills input_value_of
      (seq_fills (none_fills _)
      (seq_fills (name_viable m).fills (seq_fills (mark_fills is_colon k.Colon refl) (seq_fills (located_fills m (type_fills m n)) (seq_fills (none_fills _) (none_fills _))))))

  arguments_definition_from : (n : ℕ) → FillsFrom is_open_paren (g.arguments_definition m (suc n)) any
  unfolding g.arguments_definition
  arguments_definition_from n = enclosed_from is_open_paren is_close_paren k.CloseParen refl (some_fills (located_fills m (input_value_definition_fills n)))

  pub arguments_definition_viable : (n : ℕ) → Viable true (g.arguments_definition m (suc n)) (y.arguments_definition m n) any
  unfolding g.arguments_definition y.arguments_definition
  arguments_definition_viable zero = none_deep is_open_paren k.OpenParen refl (arguments_definition_from zero)
  arguments_definition_viable (suc n) = enclosed is_open_paren is_close_paren k.OpenParen k.CloseParen refl refl (one_or_more begins_described_name (located m (input_value_definition_viable n)))

  pub field_definition_viable : (n : ℕ) → Viable true (g.field_definition m (suc n)) (y.field_definition m n) any
  unfolding g.field_definition y.field_definition
  field_definition_viable n =
      mapped field_definition_of
      (seq (maybe is_string description_viable)
      (seq (name_viable m)
      (seq (maybe is_open_paren (arguments_definition_viable n)) (seq (mark is_colon k.Colon refl) (seq (type_viable m n) (maybe is_at (directives_viable m true n)))))))

  fields_definition_from : (n : ℕ) → FillsFrom is_open_brace (g.fields_definition m (suc n)) any
  unfolding g.fields_definition g.field_definition
  fields_definition_from n =
      enclosed_from is_open_brace is_close_brace k.CloseBrace refl
      (some_fills (located_fills m
      (mapped_fills field_definition_of
      (seq_fills (none_fills _) (seq_fills (name_viable m).fills (seq_fills (none_fills _) (seq_fills (mark_fills is_colon k.Colon refl) (seq_fills (type_fills m n) (none_fills _)))))))))

  pub fields_definition_viable : (n : ℕ) → Viable true (g.fields_definition m (suc n)) (y.fields_definition m n) any
  unfolding g.fields_definition y.fields_definition
  fields_definition_viable zero = none_deep is_open_brace k.OpenBrace refl (fields_definition_from zero)
  fields_definition_viable (suc n) = enclosed is_open_brace is_close_brace k.OpenBrace k.CloseBrace refl refl (one_or_more begins_described_name (located m (field_definition_viable n)))

  pub object_type_viable : (n : ℕ) → Viable true (g.object_type m (suc n)) (y.object_type m n) no_brace
  unfolding g.object_type y.object_type
  object_type_viable n =
      mapped fields_of
      (seq (mark is_type k.Type refl)
      (seq (name_viable m)
      (seq (maybe is_implements implements_interfaces_viable) (seq (maybe is_at (directives_viable m true n)) (maybe_unless is_open_brace (fields_definition_viable n))))))

  pub interface_type_viable : (n : ℕ) → Viable true (g.interface_type m (suc n)) (y.interface_type m n) no_brace
  unfolding g.interface_type y.interface_type
  interface_type_viable n =
      mapped fields_of
      (seq (mark is_interface k.Interface refl)
      (seq (name_viable m)
      (seq (maybe is_implements implements_interfaces_viable) (seq (maybe is_at (directives_viable m true n)) (maybe_unless is_open_brace (fields_definition_viable n))))))

  pub union_member_types_viable : Viable true (g.union_member_types m) (y.union_member_types m) any
  unfolding g.union_member_types y.union_member_types
  union_member_types_viable = mapped (λ x. x.1) (seq (mark is_equals k.Equals refl) (separated is_pipe k.Pipe refl (name_viable m)))

  pub union_type_viable : (n : ℕ) → Viable true (g.union_type m (suc n)) (y.union_type m n) any
  unfolding g.union_type y.union_type
  union_type_viable n =
      mapped union_of (seq (mark is_union k.Union refl) (seq (name_viable m) (seq (maybe is_at (directives_viable m true n)) (maybe is_equals union_member_types_viable))))

  pub enum_value_definition_viable : (n : ℕ) → Viable true (g.enum_value_definition m (suc n)) (y.enum_value_definition m n) any
  unfolding g.enum_value_definition y.enum_value_definition
  enum_value_definition_viable n = mapped enum_value_definition_of (seq (maybe is_string description_viable) (seq (enum_value_viable m) (maybe is_at (directives_viable m true n))))

  enum_values_definition_from : (n : ℕ) → FillsFrom is_open_brace (g.enum_values_definition m (suc n)) any
  unfolding g.enum_values_definition g.enum_value_definition
  enum_values_definition_from n =
      enclosed_from is_open_brace is_close_brace k.CloseBrace refl
      (some_fills (located_fills m (mapped_fills enum_value_definition_of (seq_fills (none_fills _) (seq_fills (enum_value_viable m).fills (none_fills _))))))

  pub enum_values_definition_viable : (n : ℕ) → Viable true (g.enum_values_definition m (suc n)) (y.enum_values_definition m n) any
  unfolding g.enum_values_definition y.enum_values_definition
  enum_values_definition_viable zero = none_deep is_open_brace k.OpenBrace refl (enum_values_definition_from zero)
  enum_values_definition_viable (suc n) = enclosed is_open_brace is_close_brace k.OpenBrace k.CloseBrace refl refl (one_or_more begins_described_name (located m (enum_value_definition_viable n)))

  pub enum_type_viable : (n : ℕ) → Viable true (g.enum_type m (suc n)) (y.enum_type m n) no_brace
  unfolding g.enum_type y.enum_type
  enum_type_viable n =
      mapped enum_of
      (seq (mark is_enum k.Enum refl) (seq (name_viable m) (seq (maybe is_at (directives_viable m true n)) (maybe_unless is_open_brace (enum_values_definition_viable n)))))

  input_fields_definition_from : (n : ℕ) → FillsFrom is_open_brace (g.input_fields_definition m (suc n)) any
  unfolding g.input_fields_definition
  input_fields_definition_from n = enclosed_from is_open_brace is_close_brace k.CloseBrace refl (some_fills (located_fills m (input_value_definition_fills n)))

  pub input_fields_definition_viable : (n : ℕ) → Viable true (g.input_fields_definition m (suc n)) (y.input_fields_definition m n) any
  unfolding g.input_fields_definition y.input_fields_definition
  input_fields_definition_viable zero = none_deep is_open_brace k.OpenBrace refl (input_fields_definition_from zero)
  input_fields_definition_viable (suc n) = enclosed is_open_brace is_close_brace k.OpenBrace k.CloseBrace refl refl (one_or_more begins_described_name (located m (input_value_definition_viable n)))

  pub input_object_type_viable : (n : ℕ) → Viable true (g.input_object_type m (suc n)) (y.input_object_type m n) no_brace
  unfolding g.input_object_type y.input_object_type
  input_object_type_viable n =
      mapped input_object_of
      (seq (mark is_input k.Input refl) (seq (name_viable m) (seq (maybe is_at (directives_viable m true n)) (maybe_unless is_open_brace (input_fields_definition_viable n)))))

  pub type_definition_viable : (n : ℕ) → Viable true (g.type_definition m (suc n)) (y.type_definition m n) no_brace
  unfolding g.type_definition y.type_definition
  type_definition_viable n =
      alternative is_scalar (weaker no_brace (mapped ScalarKind (scalar_type_viable n)))
      (alternative is_type (mapped ObjectKind (object_type_viable n))
      (alternative is_interface (mapped InterfaceKind (interface_type_viable n))
      (alternative is_union (weaker no_brace (mapped UnionKind (union_type_viable n)))
      (alternative is_enum (mapped EnumKind (enum_type_viable n)) (only is_input (mapped InputObjectKind (input_object_type_viable n)))))))

  pub directive_definition_viable : (n : ℕ) → Viable true (g.directive_definition m (suc n)) (y.directive_definition m n) any
  unfolding g.directive_definition y.directive_definition
  directive_definition_viable n =
      mapped directive_definition_of
      (seq (mark is_directive k.Directive refl)
      (seq (mark is_at k.At refl)
      (seq (name_viable m)
      (seq (maybe is_open_paren (arguments_definition_viable n))
      (seq (maybe is_at (directives_viable m true n))
      (seq (maybe is_repeatable (mark is_repeatable k.Repeatable refl)) (seq (mark is_on k.On refl) directive_locations_viable)))))))

  pub schema_extension_viable : (n : ℕ) → Viable true (g.schema_extension m (suc n)) (y.schema_extension m n) no_brace
  unfolding g.schema_extension y.schema_extension
  schema_extension_viable n =
      mapped schema_extension_of (seq (mark is_schema k.Schema refl) (seq (maybe is_at (directives_viable m true n)) (maybe_unless is_open_brace (roots_viable n))))
