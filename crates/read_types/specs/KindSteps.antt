-- Private: leads to `Derives` and `Says`. How what follows a description or `extend` is read.
use Rattle.std.specs.Prelude.{ℕ, List, Option, Ok}
use Rattle.tree_directives.specs.DirectiveTree.{Directives, InputValues}
use Rattle.graphql_names.specs.Placed.{Text}
use Rattle.read_operations.specs.in_definitions.DefinitionTree.{DefinitionTree, DirectiveDefinition}
use Rattle.read_grammar.specs.Meaning.{Meaning}
use Rattle.read_grammar.specs.Kinds.{is_at, is_equals, is_implements, is_open_brace, is_schema}
use Rattle.read_grammar.specs.Grammar.{definition_of}
use Rattle.read_grammar.specs.TypeSystemGrammar.{KindTree, Fields, Values, SchemaKind, ScalarKind, ObjectKind, InterfaceKind, UnionKind, EnumKind, InputObjectKind}
use Rattle.read_grammar.specs.Reading.{Parser, and_then, when, try, ◌⊙◌, ◌<&>◌}
use Rattle.read_grammar.specs.TypeSystemReading as types
use Rattle.read_grammar.specs.ValueGrammar.{constant}
use Rattle.read_grammar.specs.ValueReading.{directives}

module _ {P : Type 0} (m : Meaning P) where
  -- ---- what follows a name

  -- of an object or an interface
  abbrev pub fields_rest : ℕ → Parser (Option (List (Text P)) × (Option (Directives P) × Option (Fields P)))
  fields_rest n = try is_implements (types.implements_interfaces m) ⊙ try is_at (directives m constant n) ⊙ try is_open_brace (types.fields_definition m n)

  abbrev pub union_rest : ℕ → Parser (Option (Directives P) × Option (List (Text P)))
  union_rest n = try is_at (directives m constant n) ⊙ try is_equals (types.union_member_types m)

  abbrev pub enum_rest : ℕ → Parser (Option (Directives P) × Option (Values P))
  enum_rest n = try is_at (directives m constant n) ⊙ try is_open_brace (types.enum_values_definition m n)

  abbrev pub input_object_rest : ℕ → Parser (Option (Directives P) × Option (InputValues P))
  input_object_rest n = try is_at (directives m constant n) ⊙ try is_open_brace (types.input_fields_definition m n)

  -- ---- kind by kind

  abbrev pub schema_kind : ℕ → Parser (KindTree P)
  schema_kind n = SchemaKind <&> types.schema_definition m n

  abbrev pub schema_extension_kind : ℕ → Parser (KindTree P)
  schema_extension_kind n = SchemaKind <&> types.schema_extension m n

  abbrev pub scalar_kind : ℕ → Parser (KindTree P)
  scalar_kind n = ScalarKind <&> types.scalar_type m n

  abbrev pub object_kind : ℕ → Parser (KindTree P)
  object_kind n = ObjectKind <&> types.object_type m n

  abbrev pub interface_kind : ℕ → Parser (KindTree P)
  interface_kind n = InterfaceKind <&> types.interface_type m n

  abbrev pub union_kind : ℕ → Parser (KindTree P)
  union_kind n = UnionKind <&> types.union_type m n

  abbrev pub enum_kind : ℕ → Parser (KindTree P)
  enum_kind n = EnumKind <&> types.enum_type m n

  abbrev pub input_object_kind : ℕ → Parser (KindTree P)
  input_object_kind n = InputObjectKind <&> types.input_object_type m n

  -- ---- any kind

  -- SchemaDefinition or TypeDefinition
  abbrev pub definition_kind : ℕ → Parser (KindTree P)
  definition_kind n = when is_schema (schema_kind n) (types.type_definition m n)

  -- SchemaExtension or TypeDefinition
  abbrev pub extension_kind : ℕ → Parser (KindTree P)
  extension_kind n = when is_schema (schema_extension_kind n) (types.type_definition m n)

  -- ---- the definition with this description, which begins at this offset

  abbrev pub kind_from : ℕ → Option (Text P) → ℕ → Parser (DefinitionTree P)
  kind_from begin d n i = and_then (definition_kind n i) (λ x o. Ok (definition_of (m.place begin o.last) d x, o))

  abbrev pub directive_from : ℕ → Option (Text P) → ℕ → Parser (DefinitionTree P)
  directive_from begin d n i = and_then (types.directive_definition m n i) (λ x o. Ok (DirectiveDefinition (m.place begin o.last) (record x { description = d }), o))
