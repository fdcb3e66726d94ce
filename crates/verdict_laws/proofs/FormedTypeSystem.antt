-- Definitions of the type system of the tokens of a text are well-formed.
use Rattle.std.proofs.Common.{◌≡◌, ℕ, zero, suc, Bool, true, ◌&&◌, [], unwrap_or, refl}
use Rattle.std.specs.List.{list_all}
use Rattle.std.proofs.lemmas.Bool.{and_from, and_parts}
use Rattle.tree_definitions.specs.Writable.{has_some}
use Rattle.read_grammar.specs.Meaning.{Meaning, text_of}
use Rattle.read_grammar.specs.Kinds.{is_string, is_colon, is_at, is_equals, is_ampersand, is_pipe, is_on, is_location, is_repeatable, is_implements, is_schema, is_scalar, is_type, is_interface, is_union, is_enum, is_input, is_directive, is_open_brace, is_close_brace, is_open_paren, is_close_paren}
use Rattle.read_grammar.specs.Locations.{location_of}
use Rattle.read_grammar.specs.Rules.{separated}
use Rattle.read_grammar.specs.ValueGrammar.{constant}
use Rattle.read_grammar.specs.ValueGrammar as v
use Rattle.read_grammar.specs.TypeSystemGrammar as g
use Rattle.read_grammar.specs.TypeSystemGrammar.{KindTree, SchemaKind, ScalarKind, ObjectKind, InterfaceKind, UnionKind, EnumKind, InputObjectKind, root_of, schema_of, schema_extension_of, input_value_of, field_definition_of, enum_value_definition_of, scalar_of, fields_of, union_of, enum_of, input_object_of, directive_definition_of}
use Rattle.round_trip.specs.WellFormed.{type_well_formed, default_well_formed, directives_well_formed, input_values_well_formed, field_definition_well_formed, enum_value_well_formed, root_well_formed, names_well_formed, scalar_well_formed, fields_well_formed, union_well_formed, enum_well_formed, input_object_well_formed, schema_well_formed}
use Rattle.round_trip.specs.Definitions.{directive_definition_well_formed}
use Rattle.verdict_laws.proofs.Taken as makes
use Rattle.verdict_laws.proofs.Taken.{Makes, any_token, mapped, mapped_any, mark, seq, choice, never, weaker, anyway, maybe, maybe_any, or_none, or_none_unless, some_all, enclosed, located, three, four}
use Rattle.verdict_laws.proofs.FormedValues.{named, name_makes, enum_value_makes, maybe_directives, default_value_makes, type_makes}
use Rattle.verdict_laws.proofs.FormedOperations.{operation_type_makes}

-- what a kind of definition says is well-formed
abbrev pub kind_well_formed : {P : Type 0} → KindTree P → Bool
kind_well_formed (SchemaKind x) = schema_well_formed x
kind_well_formed (ScalarKind x) = scalar_well_formed x
kind_well_formed (ObjectKind x) = fields_well_formed x
kind_well_formed (InterfaceKind x) = fields_well_formed x
kind_well_formed (UnionKind x) = union_well_formed x
kind_well_formed (EnumKind x) = enum_well_formed x
kind_well_formed (InputObjectKind x) = input_object_well_formed x

directive_locations_makes : Makes g.directive_locations (λ xs. true)
unfolding g.directive_locations
directive_locations_makes = anyway (makes.separated is_pipe (mapped_any (λ t. location_of t.text) (any_token is_location)))

module _ {P : Type 0} (m : Meaning P) where
  pub description_makes : Makes (g.description m) (λ x. true)
  description_makes = mapped_any (text_of m) (any_token is_string)

  root_makes : Makes (g.root_operation_type_definition m) (λ x. named m x.name)
  unfolding g.root_operation_type_definition
  root_makes = mapped root_of (seq operation_type_makes (seq (mark is_colon) (name_makes m))) (λ x h. h)

  roots_makes : (n : ℕ) → Makes (g.roots m n) (λ xs. list_all root_well_formed xs)
  unfolding g.roots
  roots_makes zero = never
  roots_makes (suc n) = enclosed is_open_brace is_close_brace (some_all (located m root_makes))

  pub schema_definition_makes : (n : ℕ) → Makes (g.schema_definition m n) (λ x. schema_well_formed x)
  unfolding g.schema_definition
  schema_definition_makes n = mapped schema_of (seq (mark is_schema) (seq (maybe_directives m constant n) (roots_makes n))) (λ x h. h)

  scalar_type_makes : (n : ℕ) → Makes (g.scalar_type m n) (λ x. scalar_well_formed x)
  unfolding g.scalar_type
  scalar_type_makes n = mapped scalar_of (seq (mark is_scalar) (seq (name_makes m) (maybe_directives m constant n))) (λ x h. h)

  -- names with a mark between each two
  names_separated : (is : _) → Makes (separated is (v.name m)) (λ xs. names_well_formed xs)
  names_separated is = weaker (makes.separated is (name_makes m)) (λ xs h. (and_parts (has_some xs) (names_well_formed xs) h).1)

  implements_makes : Makes (g.implements_interfaces m) (λ x. names_well_formed x)
  unfolding g.implements_interfaces
  implements_makes = mapped (λ x. x.1) (seq (mark is_implements) (names_separated is_ampersand)) (λ x h. h)

  input_value_makes : (n : ℕ) → Makes (g.input_value_definition m n) (λ v. named m v.name && type_well_formed v.ty.it && default_well_formed v.default_value && directives_well_formed v.directives)
  unfolding g.input_value_definition
  input_value_makes n =
      mapped input_value_of
      (seq (maybe_any description_makes) (seq (name_makes m) (seq (mark is_colon) (seq (located m (type_makes m n)) (seq (maybe (λ x. default_well_formed x) refl (default_value_makes m n)) (maybe_directives m constant n))))))
      (λ x h. four (named m x.1.0) (type_well_formed x.1.1.1.0.it) (default_well_formed x.1.1.1.1.0) (directives_well_formed (unwrap_or x.1.1.1.1.1 [])) h)

  arguments_definition_makes : (n : ℕ) → Makes (g.arguments_definition m n) (λ xs. input_values_well_formed xs)
  unfolding g.arguments_definition
  arguments_definition_makes zero = never
  arguments_definition_makes (suc n) = enclosed is_open_paren is_close_paren (some_all (located m (input_value_makes n)))

  field_definition_makes : (n : ℕ) → Makes (g.field_definition m n) (λ f. named m f.name && input_values_well_formed f.arguments && type_well_formed f.ty && directives_well_formed f.directives)
  unfolding g.field_definition
  field_definition_makes n =
      mapped field_definition_of
      (seq (maybe_any description_makes) (seq (name_makes m) (seq (or_none (λ xs. input_values_well_formed xs) refl (arguments_definition_makes n)) (seq (mark is_colon) (seq (type_makes m n) (maybe_directives m constant n))))))
      (λ x h. four (named m x.1.0) (input_values_well_formed (unwrap_or x.1.1.0 [])) (type_well_formed x.1.1.1.1.0) (directives_well_formed (unwrap_or x.1.1.1.1.1 [])) h)

  fields_definition_makes : (n : ℕ) → Makes (g.fields_definition m n) (λ xs. list_all field_definition_well_formed xs)
  unfolding g.fields_definition
  fields_definition_makes zero = never
  fields_definition_makes (suc n) = enclosed is_open_brace is_close_brace (some_all (located m (field_definition_makes n)))

  object_type_makes : (n : ℕ) → Makes (g.object_type m n) (λ x. fields_well_formed x)
  unfolding g.object_type
  object_type_makes n =
      mapped fields_of
      (seq (mark is_type) (seq (name_makes m) (seq (or_none (λ xs. names_well_formed xs) refl implements_makes) (seq (maybe_directives m constant n) (or_none_unless is_open_brace (λ xs. list_all field_definition_well_formed xs) refl (fields_definition_makes n))))))
      (λ x h. four (named m x.1.0) (names_well_formed (unwrap_or x.1.1.0 [])) (directives_well_formed (unwrap_or x.1.1.1.0 [])) (list_all field_definition_well_formed (unwrap_or x.1.1.1.1 [])) h)

  interface_type_makes : (n : ℕ) → Makes (g.interface_type m n) (λ x. fields_well_formed x)
  unfolding g.interface_type
  interface_type_makes n =
      mapped fields_of
      (seq (mark is_interface) (seq (name_makes m) (seq (or_none (λ xs. names_well_formed xs) refl implements_makes) (seq (maybe_directives m constant n) (or_none_unless is_open_brace (λ xs. list_all field_definition_well_formed xs) refl (fields_definition_makes n))))))
      (λ x h. four (named m x.1.0) (names_well_formed (unwrap_or x.1.1.0 [])) (directives_well_formed (unwrap_or x.1.1.1.0 [])) (list_all field_definition_well_formed (unwrap_or x.1.1.1.1 [])) h)

  union_members_makes : Makes (g.union_member_types m) (λ x. names_well_formed x)
  unfolding g.union_member_types
  union_members_makes = mapped (λ x. x.1) (seq (mark is_equals) (names_separated is_pipe)) (λ x h. h)

  union_type_makes : (n : ℕ) → Makes (g.union_type m n) (λ x. union_well_formed x)
  unfolding g.union_type
  union_type_makes n =
      mapped union_of
      (seq (mark is_union) (seq (name_makes m) (seq (maybe_directives m constant n) (or_none (λ xs. names_well_formed xs) refl union_members_makes))))
      (λ x h. three (named m x.1.0) (directives_well_formed (unwrap_or x.1.1.0 [])) (names_well_formed (unwrap_or x.1.1.1 [])) h)

  enum_value_definition_makes : (n : ℕ) → Makes (g.enum_value_definition m n) (λ v. named m v.value && directives_well_formed v.directives)
  unfolding g.enum_value_definition
  enum_value_definition_makes n = mapped enum_value_definition_of (seq (maybe_any description_makes) (seq (enum_value_makes m) (maybe_directives m constant n))) (λ x h. h)

  enum_values_makes : (n : ℕ) → Makes (g.enum_values_definition m n) (λ xs. list_all enum_value_well_formed xs)
  unfolding g.enum_values_definition
  enum_values_makes zero = never
  enum_values_makes (suc n) = enclosed is_open_brace is_close_brace (some_all (located m (enum_value_definition_makes n)))

  enum_type_makes : (n : ℕ) → Makes (g.enum_type m n) (λ x. enum_well_formed x)
  unfolding g.enum_type
  enum_type_makes n =
      mapped enum_of
      (seq (mark is_enum) (seq (name_makes m) (seq (maybe_directives m constant n) (or_none_unless is_open_brace (λ xs. list_all enum_value_well_formed xs) refl (enum_values_makes n)))))
      (λ x h. three (named m x.1.0) (directives_well_formed (unwrap_or x.1.1.0 [])) (list_all enum_value_well_formed (unwrap_or x.1.1.1 [])) h)

  input_fields_makes : (n : ℕ) → Makes (g.input_fields_definition m n) (λ xs. input_values_well_formed xs)
  unfolding g.input_fields_definition
  input_fields_makes zero = never
  input_fields_makes (suc n) = enclosed is_open_brace is_close_brace (some_all (located m (input_value_makes n)))

  input_object_makes : (n : ℕ) → Makes (g.input_object_type m n) (λ x. input_object_well_formed x)
  unfolding g.input_object_type
  input_object_makes n =
      mapped input_object_of
      (seq (mark is_input) (seq (name_makes m) (seq (maybe_directives m constant n) (or_none_unless is_open_brace (λ xs. input_values_well_formed xs) refl (input_fields_makes n)))))
      (λ x h. three (named m x.1.0) (directives_well_formed (unwrap_or x.1.1.0 [])) (input_values_well_formed (unwrap_or x.1.1.1 [])) h)

  pub type_definition_makes : (n : ℕ) → Makes (g.type_definition m n) (λ x. kind_well_formed x)
  unfolding g.type_definition
  type_definition_makes n =
      choice (mapped ScalarKind (scalar_type_makes n) (λ x h. h))
      (choice (mapped ObjectKind (object_type_makes n) (λ x h. h))
      (choice (mapped InterfaceKind (interface_type_makes n) (λ x h. h))
      (choice (mapped UnionKind (union_type_makes n) (λ x h. h))
      (choice (mapped EnumKind (enum_type_makes n) (λ x h. h))
      (mapped InputObjectKind (input_object_makes n) (λ x h. h))))))

  pub directive_definition_makes : (n : ℕ) → Makes (g.directive_definition m n) (λ x. directive_definition_well_formed x)
  unfolding g.directive_definition
  directive_definition_makes n =
      mapped directive_definition_of
      (seq (mark is_directive) (seq (mark is_at) (seq (name_makes m) (seq (or_none (λ xs. input_values_well_formed xs) refl (arguments_definition_makes n)) (seq (maybe_directives m constant n)
      (seq (maybe_any (mark is_repeatable)) (seq (mark is_on) directive_locations_makes)))))))
      (λ x h. last (named m x.1.1.0) (input_values_well_formed (unwrap_or x.1.1.1.0 [])) (directives_well_formed (unwrap_or x.1.1.1.1.0 [])) h)
    where
      last : (a b c : Bool) → (a && (b && (c && true))) ≡ true → (a && (b && c)) ≡ true
      last a b c h =
          let first = and_parts a (b && (c && true)) h in
          let second = and_parts b (c && true) first.1 in
          and_from a (b && c) first.0 (and_from b c second.0 (and_parts c true second.1).0)

  pub schema_extension_makes : (n : ℕ) → Makes (g.schema_extension m n) (λ x. schema_well_formed x)
  unfolding g.schema_extension
  schema_extension_makes n =
      mapped schema_extension_of
      (seq (mark is_schema) (seq (maybe_directives m constant n) (or_none_unless is_open_brace (λ xs. list_all root_well_formed xs) refl (roots_makes n))))
      (λ x h. h)
