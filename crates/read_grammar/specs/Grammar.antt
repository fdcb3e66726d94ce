-- The grammar of documents (GraphQL, October 2021, appendix B), and which tokens of whole texts it derives, with which trees.
use Rattle.std.specs.Prelude.{◌≡◌, ℕ, Bool, true, false, ◌&&◌, not, List, [], ◌∷◌, Option, ◌⊎◌}
use Rattle.std.proofs.Common.{inl, inr}
use Rattle.graphql_names.specs.Placed.{Placed, Text}
use Rattle.graphql_ast.specs.in_literals.TypeTree.{TypeTree}
use Rattle.graphql_ast.specs.in_operations.SelectionTree.{SelectionTrees}
use Rattle.graphql_ast.specs.in_directives.DirectiveTree.{DirectiveDefinitionTree}
use Rattle.graphql_ast.specs.in_definitions.DefinitionTree.{DefinitionTree, Operation, Fragment, DirectiveDefinition, Schema, ScalarType, ObjectType, InterfaceType, UnionType, EnumType, InputObjectType, ExtendSchema, ExtendScalar, ExtendObject, ExtendInterface, ExtendUnion, ExtendEnum, ExtendInputObject}
use Rattle.read_tokens.specs.Input.{Token, Input}
use Rattle.read_grammar.specs.Meaning.{Meaning, start}
use Rattle.read_grammar.specs.Kinds.{is_extend}
use Rattle.read_grammar.specs.Rules.{Rule, mark, ◌·◌, ◌<$>◌, ◌∣◌, such_that, optional, some, placed}
use Rattle.read_grammar.specs.ValueGrammar.{type}
use Rattle.read_grammar.specs.OperationGrammar.{selections, operation_definition, fragment_definition}
use Rattle.read_grammar.specs.TypeSystemGrammar.{KindTree, SchemaKind, ScalarKind, ObjectKind, InterfaceKind, UnionKind, EnumKind, InputObjectKind, description, schema_definition, type_definition, directive_definition, schema_extension}

-- ---- the trees that the rules build

abbrev pub is_empty : {A : Type 0} → List A → Bool
is_empty [] = true
is_empty (x ∷ xs) = false

module _ {P : Type 0} where
  abbrev pub definition_of : P → Option (Text P) → KindTree P → DefinitionTree P
  definition_of p d (SchemaKind x) = Schema p d x
  definition_of p d (ScalarKind x) = ScalarType p d x
  definition_of p d (ObjectKind x) = ObjectType p d x
  definition_of p d (InterfaceKind x) = InterfaceType p d x
  definition_of p d (UnionKind x) = UnionType p d x
  definition_of p d (EnumKind x) = EnumType p d x
  definition_of p d (InputObjectKind x) = InputObjectType p d x

  abbrev pub described : P → Option (Text P) → KindTree P ⊎ DirectiveDefinitionTree P → DefinitionTree P
  described p d (inl kind) = definition_of p d kind
  described p d (inr directive) = DirectiveDefinition p (record directive { description = d })

  abbrev pub type_system_of : Placed P (Option (Text P) × (KindTree P ⊎ DirectiveDefinitionTree P)) → DefinitionTree P
  type_system_of x = described x.place x.it.0 x.it.1

  abbrev pub extended : P → KindTree P → DefinitionTree P
  extended p (SchemaKind x) = ExtendSchema p x
  extended p (ScalarKind x) = ExtendScalar p x
  extended p (ObjectKind x) = ExtendObject p x
  extended p (InterfaceKind x) = ExtendInterface p x
  extended p (UnionKind x) = ExtendUnion p x
  extended p (EnumKind x) = ExtendEnum p x
  extended p (InputObjectKind x) = ExtendInputObject p x

  abbrev pub extension_of : Placed P (Unit {0} × KindTree P) → DefinitionTree P
  extension_of x = extended x.place x.it.1

  -- at least one part follows `schema` or the name
  abbrev pub has_part : KindTree P → Bool
  has_part (SchemaKind x) = not (is_empty x.directives && is_empty x.roots)
  has_part (ScalarKind x) = not (is_empty x.directives)
  has_part (ObjectKind x) = not (is_empty x.interfaces && is_empty x.directives && is_empty x.fields)
  has_part (InterfaceKind x) = not (is_empty x.interfaces && is_empty x.directives && is_empty x.fields)
  has_part (UnionKind x) = not (is_empty x.directives && is_empty x.members)
  has_part (EnumKind x) = not (is_empty x.directives && is_empty x.values)
  has_part (InputObjectKind x) = not (is_empty x.directives && is_empty x.fields)

-- ---- the rules

module _ {P : Type 0} (m : Meaning P) where
  -- TypeSystemDefinition: Description? (SchemaDefinition / TypeDefinition / DirectiveDefinition)
  unfoldable pub type_system_definition : ℕ → Rule (DefinitionTree P)
  type_system_definition n =
      type_system_of <$> placed m (optional (description m) · (inl <$> (SchemaKind <$> schema_definition m n ∣ type_definition m n) ∣ inr <$> directive_definition m n))

  -- TypeSystemExtension: "extend" (SchemaExtension / TypeDefinition), with at least one part
  unfoldable pub type_system_extension : ℕ → Rule (DefinitionTree P)
  type_system_extension n = extension_of <$> placed m (mark is_extend · such_that has_part (SchemaKind <$> schema_extension m n ∣ type_definition m n))

  -- Definition: OperationDefinition / FragmentDefinition / TypeSystemDefinition / TypeSystemExtension
  unfoldable pub definition : ℕ → Rule (DefinitionTree P)
  definition n =
      (λ x. Operation x.place x.it) <$> placed m (operation_definition m n)
      ∣ (λ x. Fragment x.place x.it) <$> placed m (fragment_definition m n)
      ∣ type_system_definition n
      ∣ type_system_extension n

  -- Document: Definition+
  unfoldable pub document : ℕ → Rule (List (DefinitionTree P))
  document n = some (definition n)

-- ---- whole texts

-- all these tokens together are a text of the symbol, with this tree, at some limit of nesting
abbrev pub DerivesAs : {A : Type 0} → (ℕ → Rule A) → List Token → A → Type 0
DerivesAs symbol tokens tree = (n : ℕ) × (o : Input) × (o.ahead ≡ []) × symbol n (start tokens) tree o

module _ {P : Type 0} (m : Meaning P) where
  abbrev pub Derives : List Token → List (DefinitionTree P) → Type 0
  Derives = DerivesAs (document m)

  abbrev pub DerivesType : List Token → TypeTree P → Type 0
  DerivesType = DerivesAs (type m)

  abbrev pub DerivesSelections : List Token → SelectionTrees P → Type 0
  DerivesSelections = DerivesAs (selections m)
