-- The type system is read exactly, steadily, and within the limit.
use Rattle.std.proofs.Common.{ℕ, zero, suc, ◌≤◌, true, refl, arith}
use Rattle.read_grammar.specs.Meaning.{Meaning, text_of}
use Rattle.read_grammar.specs.Kinds.{next_is, is_string, is_colon, is_at, is_equals, is_ampersand, is_pipe, is_on, is_location, is_repeatable, is_implements, is_schema, is_scalar, is_type, is_interface, is_union, is_enum, is_input, is_directive, is_operation_type, is_open_brace, is_close_brace, is_open_paren, is_close_paren}
use Rattle.read_grammar.specs.Begins.{begins_described_name, begins_type_definition, begins_definition}
use Rattle.read_grammar.specs.Locations.{location_of}
use Rattle.read_grammar.specs.TypeSystemGrammar as g
use Rattle.read_grammar.specs.TypeSystemGrammar.{ScalarKind, ObjectKind, InterfaceKind, UnionKind, EnumKind, InputObjectKind, root_of, schema_of, schema_extension_of, input_value_of, field_definition_of, enum_value_definition_of, scalar_of, fields_of, union_of, enum_of, input_object_of, directive_definition_of}
use Rattle.read_grammar.specs.TypeSystemReading as y
use Rattle.read_grammar.proofs.Tests.{Test, any, either, at_end}
use Rattle.read_grammar.proofs.Parses.{Parses, token, mapped, mark, weaker, seq, opt, alternative, only, maybe, maybe_unless, located, one_or_more, separated, enclosed, none_deep, one_deep}
use Rattle.read_grammar.proofs.Values.{name_parses, enum_value_parses, type_parses, default_value_parses, directives_parses}
use Rattle.read_grammar.proofs.Operations.{operation_type_parses}

-- what may follow a definition
abbrev pub after_definition : Test
after_definition = either (next_is begins_definition) at_end

-- what may follow a definition within braces or parentheses
abbrev pub after_member : Test
after_member = either (next_is begins_described_name) (either (next_is is_close_brace) (next_is is_close_paren))

-- what may follow the interfaces of a type
abbrev pub after_interfaces : Test
after_interfaces = either (next_is is_at) (either (next_is is_open_brace) after_definition)

pub directive_locations_parses : {n : ℕ} → Parses 1 n g.directive_locations y.directive_locations y.directive_locations (either (next_is is_pipe) (next_is is_location)) after_definition
unfolding g.directive_locations y.directive_locations y.directive_location
directive_locations_parses = separated is_pipe after_definition refl refl refl refl refl refl (mapped (λ t. location_of t.text) (token is_location refl))

module _ {P : Type 0} (m : Meaning P) where
  pub description_parses : {n : ℕ} → Parses 1 n (g.description m) (y.description m) (y.description m) (next_is is_string) any
  unfolding y.description
  description_parses = mapped (text_of m) (token is_string refl)

  pub root_parses : {n : ℕ} → Parses 1 n (g.root_operation_type_definition m) (y.root_operation_type_definition m) (y.root_operation_type_definition m) (next_is is_operation_type) any
  unfolding g.root_operation_type_definition y.root_operation_type_definition
  root_parses = mapped root_of (seq refl operation_type_parses (seq refl (mark is_colon refl) (name_parses m)))

  pub roots_parses : (n h : ℕ) → n ≤ h → Parses 1 n (g.roots m n) (y.roots m n) (y.roots m h) (next_is is_open_brace) any
  unfolding g.roots y.roots
  roots_parses zero zero le = none_deep is_open_brace refl
  roots_parses zero (suc h) le = one_deep is_open_brace is_close_brace _ refl
  roots_parses (suc n) zero le = absurd (omega arith)
  roots_parses (suc n) (suc h) le = enclosed is_open_brace is_close_brace refl refl refl (one_or_more is_operation_type (next_is is_close_brace) refl refl refl refl (located m root_parses))

  pub schema_definition_parses : (n h : ℕ) → n ≤ h → Parses 1 n (g.schema_definition m n) (y.schema_definition m n) (y.schema_definition m h) (next_is is_schema) any
  unfolding g.schema_definition y.schema_definition
  schema_definition_parses n h le =
      mapped schema_of (seq refl (mark is_schema refl) (opt is_at refl refl refl (directives_parses m true n h le) (roots_parses n h le)))

  pub scalar_type_parses : (n h : ℕ) → n ≤ h → Parses 1 n (g.scalar_type m n) (y.scalar_type m n) (y.scalar_type m h) (next_is is_scalar) after_definition
  unfolding g.scalar_type y.scalar_type
  scalar_type_parses n h le =
      mapped scalar_of (seq refl (mark is_scalar refl) (seq refl (name_parses m) (maybe is_at after_definition refl refl refl (directives_parses m true n h le))))

  pub implements_interfaces_parses : {n : ℕ} → Parses 1 n (g.implements_interfaces m) (y.implements_interfaces m) (y.implements_interfaces m) (next_is is_implements) after_interfaces
  unfolding g.implements_interfaces y.implements_interfaces
  implements_interfaces_parses =
      mapped (λ x. x.1) (seq refl (mark is_implements refl) (separated is_ampersand after_interfaces refl refl refl refl refl refl (name_parses m)))

  pub input_value_definition_parses : (n h : ℕ) → n ≤ h → Parses 1 n (g.input_value_definition m n) (y.input_value_definition m n) (y.input_value_definition m h) (next_is begins_described_name) after_member
  unfolding g.input_value_definition y.input_value_definition
  input_value_definition_parses n h le =
      weaker (next_is begins_described_name) after_member refl refl
      (mapped input_value_of
      (opt is_string refl refl refl description_parses
      (seq refl (name_parses m)
      (seq refl (mark is_colon refl)
      (seq refl (located m (type_parses m n h le))
      (opt is_equals refl refl refl (default_value_parses m n h le) (maybe is_at after_member refl refl refl (directives_parses m true n h le))))))))

  pub arguments_definition_parses : (n h : ℕ) → n ≤ h → Parses 1 n (g.arguments_definition m n) (y.arguments_definition m n) (y.arguments_definition m h) (next_is is_open_paren) any
  unfolding g.arguments_definition y.arguments_definition
  arguments_definition_parses zero zero le = none_deep is_open_paren refl
  arguments_definition_parses zero (suc h) le = one_deep is_open_paren is_close_paren _ refl
  arguments_definition_parses (suc n) zero le = absurd (omega arith)
  arguments_definition_parses (suc n) (suc h) le =
      enclosed is_open_paren is_close_paren refl refl refl
      (one_or_more begins_described_name (next_is is_close_paren) refl refl refl refl (located m (input_value_definition_parses n h (omega arith))))

  pub field_definition_parses : (n h : ℕ) → n ≤ h → Parses 1 n (g.field_definition m n) (y.field_definition m n) (y.field_definition m h) (next_is begins_described_name) after_member
  unfolding g.field_definition y.field_definition
  field_definition_parses n h le =
      weaker (next_is begins_described_name) after_member refl refl
      (mapped field_definition_of
      (opt is_string refl refl refl description_parses
      (seq refl (name_parses m)
      (opt is_open_paren refl refl refl (arguments_definition_parses n h le)
      (seq refl (mark is_colon refl)
      (seq refl (type_parses m n h le) (maybe is_at after_member refl refl refl (directives_parses m true n h le))))))))

  pub fields_definition_parses : (n h : ℕ) → n ≤ h → Parses 1 n (g.fields_definition m n) (y.fields_definition m n) (y.fields_definition m h) (next_is is_open_brace) any
  unfolding g.fields_definition y.fields_definition
  fields_definition_parses zero zero le = none_deep is_open_brace refl
  fields_definition_parses zero (suc h) le = one_deep is_open_brace is_close_brace _ refl
  fields_definition_parses (suc n) zero le = absurd (omega arith)
  fields_definition_parses (suc n) (suc h) le =
      enclosed is_open_brace is_close_brace refl refl refl
      (one_or_more begins_described_name (next_is is_close_brace) refl refl refl refl (located m (field_definition_parses n h (omega arith))))

  pub object_type_parses : (n h : ℕ) → n ≤ h → Parses 1 n (g.object_type m n) (y.object_type m n) (y.object_type m h) (next_is is_type) after_definition
  unfolding g.object_type y.object_type
  object_type_parses n h le =
      mapped fields_of
      (seq refl (mark is_type refl)
      (seq refl (name_parses m)
      (opt is_implements refl refl refl implements_interfaces_parses
      (opt is_at refl refl refl (directives_parses m true n h le) (maybe_unless is_open_brace after_definition refl refl (fields_definition_parses n h le))))))

  pub interface_type_parses : (n h : ℕ) → n ≤ h → Parses 1 n (g.interface_type m n) (y.interface_type m n) (y.interface_type m h) (next_is is_interface) after_definition
  unfolding g.interface_type y.interface_type
  interface_type_parses n h le =
      mapped fields_of
      (seq refl (mark is_interface refl)
      (seq refl (name_parses m)
      (opt is_implements refl refl refl implements_interfaces_parses
      (opt is_at refl refl refl (directives_parses m true n h le) (maybe_unless is_open_brace after_definition refl refl (fields_definition_parses n h le))))))

  pub union_member_types_parses : {n : ℕ} → Parses 1 n (g.union_member_types m) (y.union_member_types m) (y.union_member_types m) (next_is is_equals) after_definition
  unfolding g.union_member_types y.union_member_types
  union_member_types_parses =
      mapped (λ x. x.1) (seq refl (mark is_equals refl) (separated is_pipe after_definition refl refl refl refl refl refl (name_parses m)))

  pub union_type_parses : (n h : ℕ) → n ≤ h → Parses 1 n (g.union_type m n) (y.union_type m n) (y.union_type m h) (next_is is_union) after_definition
  unfolding g.union_type y.union_type
  union_type_parses n h le =
      mapped union_of
      (seq refl (mark is_union refl)
      (seq refl (name_parses m)
      (opt is_at refl refl refl (directives_parses m true n h le) (maybe is_equals after_definition refl refl refl union_member_types_parses))))

  pub enum_value_definition_parses : (n h : ℕ) → n ≤ h → Parses 1 n (g.enum_value_definition m n) (y.enum_value_definition m n) (y.enum_value_definition m h) (next_is begins_described_name) after_member
  unfolding g.enum_value_definition y.enum_value_definition
  enum_value_definition_parses n h le =
      weaker (next_is begins_described_name) after_member refl refl
      (mapped enum_value_definition_of
      (opt is_string refl refl refl description_parses (seq refl (enum_value_parses m) (maybe is_at after_member refl refl refl (directives_parses m true n h le)))))

  pub enum_values_definition_parses : (n h : ℕ) → n ≤ h → Parses 1 n (g.enum_values_definition m n) (y.enum_values_definition m n) (y.enum_values_definition m h) (next_is is_open_brace) any
  unfolding g.enum_values_definition y.enum_values_definition
  enum_values_definition_parses zero zero le = none_deep is_open_brace refl
  enum_values_definition_parses zero (suc h) le = one_deep is_open_brace is_close_brace _ refl
  enum_values_definition_parses (suc n) zero le = absurd (omega arith)
  enum_values_definition_parses (suc n) (suc h) le =
      enclosed is_open_brace is_close_brace refl refl refl
      (one_or_more begins_described_name (next_is is_close_brace) refl refl refl refl (located m (enum_value_definition_parses n h (omega arith))))

  pub enum_type_parses : (n h : ℕ) → n ≤ h → Parses 1 n (g.enum_type m n) (y.enum_type m n) (y.enum_type m h) (next_is is_enum) after_definition
  unfolding g.enum_type y.enum_type
  enum_type_parses n h le =
      mapped enum_of
      (seq refl (mark is_enum refl)
      (seq refl (name_parses m)
      (opt is_at refl refl refl (directives_parses m true n h le) (maybe_unless is_open_brace after_definition refl refl (enum_values_definition_parses n h le)))))

  pub input_fields_definition_parses : (n h : ℕ) → n ≤ h → Parses 1 n (g.input_fields_definition m n) (y.input_fields_definition m n) (y.input_fields_definition m h) (next_is is_open_brace) any
  unfolding g.input_fields_definition y.input_fields_definition
  input_fields_definition_parses zero zero le = none_deep is_open_brace refl
  input_fields_definition_parses zero (suc h) le = one_deep is_open_brace is_close_brace _ refl
  input_fields_definition_parses (suc n) zero le = absurd (omega arith)
  input_fields_definition_parses (suc n) (suc h) le =
      enclosed is_open_brace is_close_brace refl refl refl
      (one_or_more begins_described_name (next_is is_close_brace) refl refl refl refl (located m (input_value_definition_parses n h (omega arith))))

  pub input_object_type_parses : (n h : ℕ) → n ≤ h → Parses 1 n (g.input_object_type m n) (y.input_object_type m n) (y.input_object_type m h) (next_is is_input) after_definition
  unfolding g.input_object_type y.input_object_type
  input_object_type_parses n h le =
      mapped input_object_of
      (seq refl (mark is_input refl)
      (seq refl (name_parses m)
      (opt is_at refl refl refl (directives_parses m true n h le) (maybe_unless is_open_brace after_definition refl refl (input_fields_definition_parses n h le)))))

  pub type_definition_parses : (n h : ℕ) → n ≤ h → Parses 1 n (g.type_definition m n) (y.type_definition m n) (y.type_definition m h) (next_is begins_type_definition) after_definition
  unfolding g.type_definition y.type_definition
  type_definition_parses n h le =
      weaker (next_is begins_type_definition) after_definition refl refl
      (alternative is_scalar refl refl (mapped ScalarKind (scalar_type_parses n h le))
      (alternative is_type refl refl (mapped ObjectKind (object_type_parses n h le))
      (alternative is_interface refl refl (mapped InterfaceKind (interface_type_parses n h le))
      (alternative is_union refl refl (mapped UnionKind (union_type_parses n h le))
      (alternative is_enum refl refl (mapped EnumKind (enum_type_parses n h le)) (only is_input refl (mapped InputObjectKind (input_object_type_parses n h le))))))))

  pub directive_definition_parses : (n h : ℕ) → n ≤ h → Parses 1 n (g.directive_definition m n) (y.directive_definition m n) (y.directive_definition m h) (next_is is_directive) after_definition
  unfolding g.directive_definition y.directive_definition
  directive_definition_parses n h le =
      mapped directive_definition_of
      (seq refl (mark is_directive refl)
      (seq refl (mark is_at refl)
      (seq refl (name_parses m)
      (opt is_open_paren refl refl refl (arguments_definition_parses n h le)
      (opt is_at refl refl refl (directives_parses m true n h le)
      (opt is_repeatable refl refl refl (mark is_repeatable refl) (seq refl (mark is_on refl) directive_locations_parses)))))))

  pub schema_extension_parses : (n h : ℕ) → n ≤ h → Parses 1 n (g.schema_extension m n) (y.schema_extension m n) (y.schema_extension m h) (next_is is_schema) after_definition
  unfolding g.schema_extension y.schema_extension
  schema_extension_parses n h le =
      mapped schema_extension_of
      (seq refl (mark is_schema refl) (opt is_at refl refl refl (directives_parses m true n h le) (maybe_unless is_open_brace after_definition refl refl (roots_parses n h le))))
