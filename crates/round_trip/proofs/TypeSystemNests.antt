-- How deep definitions of the type system nest, by the grammar.
use Rattle.std.proofs.Common.{ℕ, zero, suc, [], refl}
use Rattle.read_operations.specs.in_grammar.Meaning.{Meaning, text_of}
use Rattle.read_operations.specs.in_grammar.Kinds.{is_string, is_colon, is_at, is_equals, is_ampersand, is_pipe, is_on, is_location, is_repeatable, is_implements, is_schema, is_scalar, is_type, is_interface, is_union, is_enum, is_input, is_directive, is_open_brace, is_close_brace, is_open_paren, is_close_paren}
use Rattle.read_operations.specs.in_grammar.Locations.{location_of}
use Rattle.read_operations.specs.in_grammar.ValueGrammar.{constant}
use Rattle.read_operations.specs.in_grammar.TypeSystemGrammar as g
use Rattle.read_operations.specs.in_grammar.TypeSystemGrammar.{KindTree, SchemaKind, ScalarKind, ObjectKind, InterfaceKind, UnionKind, EnumKind, InputObjectKind, root_of, schema_of, schema_extension_of, input_value_of, field_definition_of, enum_value_definition_of, scalar_of, fields_of, union_of, enum_of, input_object_of, directive_definition_of}
use Rattle.round_trip.specs.TreeDepth.{bracketed, directives_depth, directive_definition_depth, input_value_depth, input_values_depth, field_definition_depth, enum_value_depth, fields_depth, enum_depth, input_object_depth, schema_depth}
use Rattle.round_trip.proofs.Nests.{Nests, Flat, token, flat, mapped, both, skip, ending, choice, never, maybe, maybe_or, maybe_or_unless, maybe_flat, located, separated_flat, enclosed_some}
use Rattle.round_trip.proofs.ValuesNest.{name_flat, enum_value_flat, default_nests, directives_nests, type_nests}
use Rattle.round_trip.proofs.OperationsNest.{operation_type_flat}

abbrev pub kind_depth : {P : Type 0} → KindTree P → ℕ
kind_depth (SchemaKind x) = schema_depth x
kind_depth (ScalarKind x) = directives_depth x.directives
kind_depth (ObjectKind x) = fields_depth x
kind_depth (InterfaceKind x) = fields_depth x
kind_depth (UnionKind x) = directives_depth x.directives
kind_depth (EnumKind x) = enum_depth x
kind_depth (InputObjectKind x) = input_object_depth x

locations_flat : Flat g.directive_locations
unfolding g.directive_locations
locations_flat = separated_flat is_pipe refl (mapped (λ t. location_of t.text) (token is_location refl) (λ x. refl))

module _ {P : Type 0} (m : Meaning P) where
  pub description_flat : Flat (g.description m)
  description_flat = mapped (text_of m) (token is_string refl) (λ x. refl)

  root_flat : Flat (g.root_operation_type_definition m)
  unfolding g.root_operation_type_definition
  root_flat = mapped root_of (skip operation_type_flat (skip (flat is_colon refl) (name_flat m))) (λ x. refl)

  roots_nests : (n : ℕ) → Nests (g.roots m n) (bracketed (λ r. 0))
  unfolding g.roots
  roots_nests zero = never
  roots_nests (suc n) = enclosed_some is_open_brace is_close_brace refl refl (located m root_flat)

  pub schema_nests : (n : ℕ) → Nests (g.schema_definition m n) schema_depth
  unfolding g.schema_definition
  schema_nests n = mapped schema_of (skip (flat is_schema refl) (both (maybe_or [] refl (directives_nests m constant n)) (roots_nests n))) (λ x. refl)

  pub schema_extension_nests : (n : ℕ) → Nests (g.schema_extension m n) schema_depth
  unfolding g.schema_extension
  schema_extension_nests n = mapped schema_extension_of (skip (flat is_schema refl) (both (maybe_or [] refl (directives_nests m constant n)) (maybe_or_unless is_open_brace [] refl (roots_nests n)))) (λ x. refl)

  scalar_nests : (n : ℕ) → Nests (g.scalar_type m n) (λ x. directives_depth x.directives)
  unfolding g.scalar_type
  scalar_nests n = mapped scalar_of (skip (flat is_scalar refl) (skip (name_flat m) (maybe_or [] refl (directives_nests m constant n)))) (λ x. refl)

  implements_flat : Flat (g.implements_interfaces m)
  unfolding g.implements_interfaces
  implements_flat = mapped (λ x. x.1) (skip (flat is_implements refl) (separated_flat is_ampersand refl (name_flat m))) (λ x. refl)

  input_value_nests : (n : ℕ) → Nests (g.input_value_definition m n) input_value_depth
  unfolding g.input_value_definition
  input_value_nests n =
      mapped input_value_of (skip (maybe_flat description_flat) (skip (name_flat m) (skip (flat is_colon refl) (both (located m (type_nests m n)) (both (maybe (default_nests m n)) (maybe_or [] refl (directives_nests m constant n))))))) (λ x. refl)

  arguments_nests : (n : ℕ) → Nests (g.arguments_definition m n) input_values_depth
  unfolding g.arguments_definition
  arguments_nests zero = never
  arguments_nests (suc n) = enclosed_some is_open_paren is_close_paren refl refl (located m (input_value_nests n))

  field_nests : (n : ℕ) → Nests (g.field_definition m n) field_definition_depth
  unfolding g.field_definition
  field_nests n =
      mapped field_definition_of (skip (maybe_flat description_flat) (skip (name_flat m) (both (maybe_or [] refl (arguments_nests n)) (skip (flat is_colon refl) (both (type_nests m n) (maybe_or [] refl (directives_nests m constant n))))))) (λ x. refl)

  fields_nests : (n : ℕ) → Nests (g.fields_definition m n) (bracketed (λ f. field_definition_depth f.it))
  unfolding g.fields_definition
  fields_nests zero = never
  fields_nests (suc n) = enclosed_some is_open_brace is_close_brace refl refl (located m (field_nests n))

  object_nests : (n : ℕ) → Nests (g.object_type m n) fields_depth
  unfolding g.object_type
  object_nests n =
      mapped fields_of (skip (flat is_type refl) (skip (name_flat m) (skip (maybe_flat implements_flat) (both (maybe_or [] refl (directives_nests m constant n)) (maybe_or_unless is_open_brace [] refl (fields_nests n)))))) (λ x. refl)

  interface_nests : (n : ℕ) → Nests (g.interface_type m n) fields_depth
  unfolding g.interface_type
  interface_nests n =
      mapped fields_of (skip (flat is_interface refl) (skip (name_flat m) (skip (maybe_flat implements_flat) (both (maybe_or [] refl (directives_nests m constant n)) (maybe_or_unless is_open_brace [] refl (fields_nests n)))))) (λ x. refl)

  members_flat : Flat (g.union_member_types m)
  unfolding g.union_member_types
  members_flat = mapped (λ x. x.1) (skip (flat is_equals refl) (separated_flat is_pipe refl (name_flat m))) (λ x. refl)

  union_nests : (n : ℕ) → Nests (g.union_type m n) (λ x. directives_depth x.directives)
  unfolding g.union_type
  union_nests n = mapped union_of (skip (flat is_union refl) (skip (name_flat m) (ending (maybe_or [] refl (directives_nests m constant n)) (maybe_flat members_flat)))) (λ x. refl)

  value_nests : (n : ℕ) → Nests (g.enum_value_definition m n) enum_value_depth
  unfolding g.enum_value_definition
  value_nests n = mapped enum_value_definition_of (skip (maybe_flat description_flat) (skip (enum_value_flat m) (maybe_or [] refl (directives_nests m constant n)))) (λ x. refl)

  values_nests : (n : ℕ) → Nests (g.enum_values_definition m n) (bracketed (λ v. enum_value_depth v.it))
  unfolding g.enum_values_definition
  values_nests zero = never
  values_nests (suc n) = enclosed_some is_open_brace is_close_brace refl refl (located m (value_nests n))

  enum_nests : (n : ℕ) → Nests (g.enum_type m n) enum_depth
  unfolding g.enum_type
  enum_nests n = mapped enum_of (skip (flat is_enum refl) (skip (name_flat m) (both (maybe_or [] refl (directives_nests m constant n)) (maybe_or_unless is_open_brace [] refl (values_nests n))))) (λ x. refl)

  inputs_nests : (n : ℕ) → Nests (g.input_fields_definition m n) input_values_depth
  unfolding g.input_fields_definition
  inputs_nests zero = never
  inputs_nests (suc n) = enclosed_some is_open_brace is_close_brace refl refl (located m (input_value_nests n))

  input_object_nests : (n : ℕ) → Nests (g.input_object_type m n) input_object_depth
  unfolding g.input_object_type
  input_object_nests n = mapped input_object_of (skip (flat is_input refl) (skip (name_flat m) (both (maybe_or [] refl (directives_nests m constant n)) (maybe_or_unless is_open_brace [] refl (inputs_nests n))))) (λ x. refl)

  pub type_definition_nests : (n : ℕ) → Nests (g.type_definition m n) kind_depth
  unfolding g.type_definition
  type_definition_nests n =
      choice (mapped ScalarKind (scalar_nests n) (λ x. refl))
      (choice (mapped ObjectKind (object_nests n) (λ x. refl))
      (choice (mapped InterfaceKind (interface_nests n) (λ x. refl))
      (choice (mapped UnionKind (union_nests n) (λ x. refl))
      (choice (mapped EnumKind (enum_nests n) (λ x. refl))
      (mapped InputObjectKind (input_object_nests n) (λ x. refl))))))

  pub directive_nests : (n : ℕ) → Nests (g.directive_definition m n) directive_definition_depth
  unfolding g.directive_definition
  directive_nests n =
      mapped directive_definition_of (skip (flat is_directive refl) (skip (flat is_at refl) (skip (name_flat m) (both (maybe_or [] refl (arguments_nests n)) (ending (maybe_or [] refl (directives_nests m constant n)) (skip (maybe_flat (flat is_repeatable refl)) (skip (flat is_on refl) locations_flat))))))) (λ x. refl)
