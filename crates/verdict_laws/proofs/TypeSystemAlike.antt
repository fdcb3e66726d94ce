-- Definitions of the type system are read alike.
use Rattle.std.proofs.Common.{◌≡◌, ℕ, zero, suc, not, ◌&&◌, List, [], ◌∷◌, map, refl}
use Rattle.graphql_names.specs.Placed.{unplaced_text, unplaced_node}
use Rattle.tree_directives.specs.DirectiveTree.{unplaced_directive, unplaced_input_value, unplaced_directive_definition}
use Rattle.tree_type_members.specs.TypeSystemTree.{unplaced_field_definition, unplaced_enum_value, unplaced_root, unplaced_schema, unplaced_scalar, unplaced_fields, unplaced_union, unplaced_enum, unplaced_input_object}
use Rattle.read_tokens.specs.Input.{Token}
use Rattle.read_grammar.specs.Meaning.{Meaning, text_of}
use Rattle.read_grammar.specs.Kinds.{is_string, is_colon, is_at, is_equals, is_ampersand, is_pipe, is_on, is_repeatable, is_implements, is_schema, is_scalar, is_type, is_interface, is_union, is_enum, is_input, is_directive, is_open_brace, is_close_brace, is_open_paren, is_close_paren}
use Rattle.read_grammar.specs.Rules.{one, mark, optional}
use Rattle.read_grammar.specs.ValueGrammar.{constant}
use Rattle.read_grammar.specs.OperationGrammar.{operation_type}
use Rattle.read_grammar.specs.TypeSystemGrammar as g
use Rattle.read_grammar.specs.TypeSystemGrammar.{KindTree, SchemaKind, ScalarKind, ObjectKind, InterfaceKind, UnionKind, EnumKind, InputObjectKind, root_of, schema_of, schema_extension_of, input_value_of, field_definition_of, enum_value_definition_of, scalar_of, fields_of, union_of, enum_of, input_object_of, directive_definition_of}
use Rattle.read_grammar.specs.Grammar.{is_empty, has_part}
use Rattle.verdict_laws.proofs.Alike.{Alike, fixed, skipped, mapped, made, seq, choice, never, maybe, maybe_or, maybe_or_unless, one_or_more, enclosed, following, located, separated}
use Rattle.verdict_laws.proofs.ValuesAlike.{name_alike, enum_value_alike, default_alike, directives_alike, type_alike}

abbrev pub unplaced_kind : {P : Type 0} → KindTree P → KindTree (Unit {0})
unplaced_kind (SchemaKind x) = SchemaKind (unplaced_schema x)
unplaced_kind (ScalarKind x) = ScalarKind (unplaced_scalar x)
unplaced_kind (ObjectKind x) = ObjectKind (unplaced_fields x)
unplaced_kind (InterfaceKind x) = InterfaceKind (unplaced_fields x)
unplaced_kind (UnionKind x) = UnionKind (unplaced_union x)
unplaced_kind (EnumKind x) = EnumKind (unplaced_enum x)
unplaced_kind (InputObjectKind x) = InputObjectKind (unplaced_input_object x)

-- whether there is a part is told without places
empty_same : {A B : Type 0} (u : A → B) (xs : List A) → is_empty xs ≡ is_empty (map u xs)
empty_same u [] = refl
empty_same u (x ∷ xs) = refl

pub part_same : {P : Type 0} (x : KindTree P) → has_part x ≡ has_part (unplaced_kind x)
part_same (SchemaKind x) = λ i. not (empty_same (unplaced_node unplaced_directive) x.directives i && empty_same (unplaced_node unplaced_root) x.roots i)
part_same (ScalarKind x) = λ i. not (empty_same (unplaced_node unplaced_directive) x.directives i)
part_same (ObjectKind x) = λ i. not (empty_same unplaced_text x.interfaces i && empty_same (unplaced_node unplaced_directive) x.directives i && empty_same (unplaced_node unplaced_field_definition) x.fields i)
part_same (InterfaceKind x) = λ i. not (empty_same unplaced_text x.interfaces i && empty_same (unplaced_node unplaced_directive) x.directives i && empty_same (unplaced_node unplaced_field_definition) x.fields i)
part_same (UnionKind x) = λ i. not (empty_same (unplaced_node unplaced_directive) x.directives i && empty_same unplaced_text x.members i)
part_same (EnumKind x) = λ i. not (empty_same (unplaced_node unplaced_directive) x.directives i && empty_same (unplaced_node unplaced_enum_value) x.values i)
part_same (InputObjectKind x) = λ i. not (empty_same (unplaced_node unplaced_directive) x.directives i && empty_same (unplaced_node unplaced_input_value) x.fields i)

module _ {P : Type 0} (string : Token → List ℕ) (at other : ℕ → ℕ → P) where
  abbrev m : Meaning P
  m = record { place = at; string = string }

  abbrev k : Meaning P
  k = record { place = other; string = string }

  pub description_alike : Alike (g.description m) (g.description k) unplaced_text
  description_alike = mapped (text_of m) (text_of k) (fixed (one is_string) (λ t. t)) (λ t. record { it = string t; place = tt }) (λ t. refl) (λ t. refl)

  root_alike : Alike (g.root_operation_type_definition m) (g.root_operation_type_definition k) unplaced_root
  unfolding g.root_operation_type_definition
  root_alike = made root_of (seq (fixed operation_type (λ x. x)) (seq (skipped is_colon) (name_alike string at other))) root_of (λ x. refl)

  roots_alike : (n : ℕ) → Alike (g.roots m n) (g.roots k n) (map (unplaced_node unplaced_root))
  unfolding g.roots
  roots_alike zero = never
  roots_alike (suc n) = enclosed (one_or_more (located root_alike m k)) is_open_brace is_close_brace

  pub schema_alike : (n : ℕ) → Alike (g.schema_definition m n) (g.schema_definition k n) unplaced_schema
  unfolding g.schema_definition
  schema_alike n = made schema_of (seq (skipped is_schema) (seq (maybe_or [] (directives_alike string at other constant n)) (roots_alike n))) schema_of (λ x. refl)

  pub schema_extension_alike : (n : ℕ) → Alike (g.schema_extension m n) (g.schema_extension k n) unplaced_schema
  unfolding g.schema_extension
  schema_extension_alike n =
      made schema_extension_of (seq (skipped is_schema) (seq (maybe_or [] (directives_alike string at other constant n)) (maybe_or_unless is_open_brace [] (roots_alike n)))) schema_extension_of (λ x. refl)

  scalar_alike : (n : ℕ) → Alike (g.scalar_type m n) (g.scalar_type k n) unplaced_scalar
  unfolding g.scalar_type
  scalar_alike n = made scalar_of (seq (skipped is_scalar) (seq (name_alike string at other) (maybe_or [] (directives_alike string at other constant n)))) scalar_of (λ x. refl)

  implements_alike : Alike (g.implements_interfaces m) (g.implements_interfaces k) (map unplaced_text)
  unfolding g.implements_interfaces
  implements_alike = following (separated is_ampersand (name_alike string at other)) is_implements

  input_value_alike : (n : ℕ) → Alike (g.input_value_definition m n) (g.input_value_definition k n) unplaced_input_value
  unfolding g.input_value_definition
  input_value_alike n =
      made input_value_of (seq (maybe description_alike) (seq (name_alike string at other) (seq (skipped is_colon) (seq (located (type_alike string at other n) m k)
      (seq (maybe (default_alike string at other n)) (maybe_or [] (directives_alike string at other constant n))))))) input_value_of (λ x. refl)

  arguments_alike : (n : ℕ) → Alike (g.arguments_definition m n) (g.arguments_definition k n) (map (unplaced_node unplaced_input_value))
  unfolding g.arguments_definition
  arguments_alike zero = never
  arguments_alike (suc n) = enclosed (one_or_more (located (input_value_alike n) m k)) is_open_paren is_close_paren

  field_alike : (n : ℕ) → Alike (g.field_definition m n) (g.field_definition k n) unplaced_field_definition
  unfolding g.field_definition
  field_alike n =
      made field_definition_of (seq (maybe description_alike) (seq (name_alike string at other) (seq (maybe_or [] (arguments_alike n)) (seq (skipped is_colon)
      (seq (type_alike string at other n) (maybe_or [] (directives_alike string at other constant n))))))) field_definition_of (λ x. refl)

  fields_alike : (n : ℕ) → Alike (g.fields_definition m n) (g.fields_definition k n) (map (unplaced_node unplaced_field_definition))
  unfolding g.fields_definition
  fields_alike zero = never
  fields_alike (suc n) = enclosed (one_or_more (located (field_alike n) m k)) is_open_brace is_close_brace

  object_alike : (n : ℕ) → Alike (g.object_type m n) (g.object_type k n) unplaced_fields
  unfolding g.object_type
  object_alike n =
      made fields_of (seq (skipped is_type) (seq (name_alike string at other) (seq (maybe_or [] implements_alike) (seq (maybe_or [] (directives_alike string at other constant n)) (maybe_or_unless is_open_brace [] (fields_alike n)))))) fields_of (λ x. refl)

  interface_alike : (n : ℕ) → Alike (g.interface_type m n) (g.interface_type k n) unplaced_fields
  unfolding g.interface_type
  interface_alike n =
      made fields_of (seq (skipped is_interface) (seq (name_alike string at other) (seq (maybe_or [] implements_alike) (seq (maybe_or [] (directives_alike string at other constant n)) (maybe_or_unless is_open_brace [] (fields_alike n)))))) fields_of (λ x. refl)

  members_alike : Alike (g.union_member_types m) (g.union_member_types k) (map unplaced_text)
  unfolding g.union_member_types
  members_alike = following (separated is_pipe (name_alike string at other)) is_equals

  union_alike : (n : ℕ) → Alike (g.union_type m n) (g.union_type k n) unplaced_union
  unfolding g.union_type
  union_alike n = made union_of (seq (skipped is_union) (seq (name_alike string at other) (seq (maybe_or [] (directives_alike string at other constant n)) (maybe_or [] members_alike)))) union_of (λ x. refl)

  value_alike : (n : ℕ) → Alike (g.enum_value_definition m n) (g.enum_value_definition k n) unplaced_enum_value
  unfolding g.enum_value_definition
  value_alike n = made enum_value_definition_of (seq (maybe description_alike) (seq (enum_value_alike string at other) (maybe_or [] (directives_alike string at other constant n)))) enum_value_definition_of (λ x. refl)

  values_alike : (n : ℕ) → Alike (g.enum_values_definition m n) (g.enum_values_definition k n) (map (unplaced_node unplaced_enum_value))
  unfolding g.enum_values_definition
  values_alike zero = never
  values_alike (suc n) = enclosed (one_or_more (located (value_alike n) m k)) is_open_brace is_close_brace

  enum_alike : (n : ℕ) → Alike (g.enum_type m n) (g.enum_type k n) unplaced_enum
  unfolding g.enum_type
  enum_alike n =
      made enum_of (seq (skipped is_enum) (seq (name_alike string at other) (seq (maybe_or [] (directives_alike string at other constant n)) (maybe_or_unless is_open_brace [] (values_alike n))))) enum_of (λ x. refl)

  inputs_alike : (n : ℕ) → Alike (g.input_fields_definition m n) (g.input_fields_definition k n) (map (unplaced_node unplaced_input_value))
  unfolding g.input_fields_definition
  inputs_alike zero = never
  inputs_alike (suc n) = enclosed (one_or_more (located (input_value_alike n) m k)) is_open_brace is_close_brace

  input_object_alike : (n : ℕ) → Alike (g.input_object_type m n) (g.input_object_type k n) unplaced_input_object
  unfolding g.input_object_type
  input_object_alike n =
      made input_object_of (seq (skipped is_input) (seq (name_alike string at other) (seq (maybe_or [] (directives_alike string at other constant n)) (maybe_or_unless is_open_brace [] (inputs_alike n))))) input_object_of (λ x. refl)

  pub type_definition_alike : (n : ℕ) → Alike (g.type_definition m n) (g.type_definition k n) unplaced_kind
  unfolding g.type_definition
  type_definition_alike n =
      choice (made ScalarKind (scalar_alike n) ScalarKind (λ x. refl))
      (choice (made ObjectKind (object_alike n) ObjectKind (λ x. refl))
      (choice (made InterfaceKind (interface_alike n) InterfaceKind (λ x. refl))
      (choice (made UnionKind (union_alike n) UnionKind (λ x. refl))
      (choice (made EnumKind (enum_alike n) EnumKind (λ x. refl))
      (made InputObjectKind (input_object_alike n) InputObjectKind (λ x. refl))))))

  pub directive_alike : (n : ℕ) → Alike (g.directive_definition m n) (g.directive_definition k n) unplaced_directive_definition
  unfolding g.directive_definition
  directive_alike n =
      made directive_definition_of (seq (skipped is_directive) (seq (skipped is_at) (seq (name_alike string at other) (seq (maybe_or [] (arguments_alike n))
      (seq (maybe_or [] (directives_alike string at other constant n)) (seq (fixed (optional (mark is_repeatable)) (λ x. x)) (seq (skipped is_on) (fixed g.directive_locations (λ x. x))))))))) directive_definition_of (λ x. refl)
