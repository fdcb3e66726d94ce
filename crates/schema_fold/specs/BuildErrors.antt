-- The folding rules, each by what breaks it: a fault with its place and its data (GraphQL, October 2021, section 3).
use Rattle.std.specs.Prelude.{◌≡◌, ℕ, Bool, true, false, List, ◌++◌, None, Some, is_some, Contains}
use Rattle.std.specs.Option.{option_map_or}
use Rattle.graphql_names.specs.Placed.{Placed, Place}
use Rattle.tree_directives.specs.declared.operation_type.OperationType.{OperationType}
use Rattle.tree_directives.specs.DirectiveTree.{DirectiveDefinitionTree}
use Rattle.tree_definitions.specs.DefinitionTree.{DefinitionTree}
use Rattle.tree_definitions.specs.Queries.{is_executable, definition_place}
use Rattle.schema_types.specs.in_components.Lists.{AtSomePlace, IsRepeated, firsts, has_name}
use Rattle.schema_types.specs.in_components.Given.{Given, given_name}
use Rattle.schema_types.specs.SchemaTree.{same_kind}
use Rattle.schema_types.specs.TypeParts.{TypeParts, TypeDefinition, type_here, type_extension_here}
use Rattle.schema_types.specs.declared.type_kind.TypeKind.{TypeKind}
use Rattle.schema_types.specs.declared.type_kind.TypeKind.TheVariants as kind
use Rattle.schema_fold.specs.NumberedDefinition.{Definitions, numbered, type_name, types_in, type_named, directive_here, directive_name, directives_in}
use Rattle.schema_fold.specs.Components.{components, field_key, value_key, input_key}
use Rattle.schema_fold.specs.SchemaFold.{Root, schema_here, schema_extension_here, schema_definition_in, schema_is_defined, roots_given, root_key}

-- what is wrong
pub data Breach : Type 0 where
  ExecutableDefinition : Breach
  SchemaDefinitionCollision : Breach
  DirectiveDefinitionCollision : (name : List ℕ) → Breach
  TypeDefinitionCollision : (name : List ℕ) → Breach
  BuiltInScalarTypeRedefinition : (name : List ℕ) → Breach
  OrphanSchemaExtension : Breach
  OrphanTypeExtension : (name : List ℕ) → Breach
  TypeExtensionKindMismatch : (name : List ℕ) → Breach
  DuplicateRootOperation : (operation : OperationType) → Breach
  DuplicateImplementsInterfaceInObject : (type_name name : List ℕ) → Breach
  DuplicateImplementsInterfaceInInterface : (type_name name : List ℕ) → Breach
  ObjectFieldNameCollision : (type_name name : List ℕ) → Breach
  InterfaceFieldNameCollision : (type_name name : List ℕ) → Breach
  EnumValueNameCollision : (type_name name : List ℕ) → Breach
  UnionMemberNameCollision : (type_name name : List ℕ) → Breach
  InputFieldNameCollision : (type_name name : List ℕ) → Breach

-- what is wrong, and where
pub record BuildFault : Type 0 where
  pub place : Place
  pub breach : Breach

-- ---- rules on a definition of the texts' list, after the definitions in `before`

abbrev pub RuleAt : Type 1
RuleAt = Definitions → DefinitionTree Place → BuildFault → Type 0

-- a fault at the place of the definition
abbrev pub At : DefinitionTree Place → Breach → BuildFault
At d breach = record { place = definition_place d; breach = breach }

-- ExecutableDefinition: a schema document is valid only if it holds no operation and no fragment (section 3)
-- broken by an operation or a fragment
abbrev pub ExecutableDefinitionAt : RuleAt
ExecutableDefinitionAt before d fault = (is_executable d ≡ true) × (fault ≡ At d ExecutableDefinition)

-- SchemaDefinitionCollision: a schema is valid only if it is defined at most once (section 3.3)
-- broken by a schema definition after another one
abbrev pub SchemaDefinitionCollisionAt : RuleAt
SchemaDefinitionCollisionAt before d fault =
    (is_some (schema_here d) ≡ true) × (is_some (schema_definition_in before) ≡ true) × (fault ≡ At d SchemaDefinitionCollision)

-- DirectiveDefinitionCollision: a directive definition is valid only if no earlier one has its name (section 3.13)
-- broken by a directive definition after another one of its name: a built-in one does not count
abbrev pub DirectiveDefinitionCollisionAt : RuleAt
DirectiveDefinitionCollisionAt before d fault = (own : Placed Place (DirectiveDefinitionTree Place)) × (
    (directive_here d ≡ Some own) × (has_name directive_name (directive_name own) (directives_in before) ≡ true)
    × (fault ≡ At d (DirectiveDefinitionCollision (directive_name own))))

module _ (built_in texts : Definitions) where
  abbrev pub with_built_in : Definitions
  with_built_in = built_in ++ texts

  -- whether a scalar of that name is built in
  abbrev pub is_built_in_scalar : List ℕ → Bool
  is_built_in_scalar n = option_map_or (λ t. same_kind t.parts.kind kind.Scalar) (type_named n built_in) false

  -- the definition of a type after another one of its name, built in or not
  abbrev pub IsSecondDefinition : Definitions → DefinitionTree Place → TypeDefinition Place → Type 0
  IsSecondDefinition before d t = (type_here d ≡ Some t) × (has_name type_name (type_name t) (types_in (built_in ++ before)) ≡ true)

  -- TypeDefinitionCollision: a type definition is valid only if no earlier one has its name (section 3.4)
  -- broken by the definition of a type after another one of its name, if no built-in scalar has that name
  abbrev pub TypeDefinitionCollisionAt : RuleAt
  TypeDefinitionCollisionAt before d fault = (t : TypeDefinition Place) × (
      IsSecondDefinition before d t × (is_built_in_scalar (type_name t) ≡ false) × (fault ≡ At d (TypeDefinitionCollision (type_name t))))

  -- BuiltInScalarTypeRedefinition: a type definition is valid only if no built-in scalar has its name (section 3.5)
  -- broken by the definition of a type after another one of its name, if a built-in scalar has that name
  abbrev pub BuiltInScalarTypeRedefinitionAt : RuleAt
  BuiltInScalarTypeRedefinitionAt before d fault = (t : TypeDefinition Place) × (
      IsSecondDefinition before d t × (is_built_in_scalar (type_name t) ≡ true) × (fault ≡ At d (BuiltInScalarTypeRedefinition (type_name t))))

  -- OrphanSchemaExtension: a schema extension is valid only if the schema is defined (section 3.3.2)
  -- broken by an extension of a schema that is not defined anywhere
  abbrev pub OrphanSchemaExtensionAt : RuleAt
  OrphanSchemaExtensionAt before d fault =
      (is_some (schema_extension_here d) ≡ true) × (schema_is_defined with_built_in ≡ false) × (fault ≡ At d OrphanSchemaExtension)

  -- OrphanTypeExtension: a type extension is valid only if its type is defined (section 3.4.3)
  -- broken by an extension of a type that is not defined anywhere
  abbrev pub OrphanTypeExtensionAt : RuleAt
  OrphanTypeExtensionAt before d fault = (e : TypeParts Place) × (
      (type_extension_here d ≡ Some e) × (type_named e.name.it with_built_in ≡ None) × (fault ≡ At d (OrphanTypeExtension e.name.it)))

  -- TypeExtensionKindMismatch: a type extension is valid only if it is of the kind of its type (sections 3.5 to 3.10)
  -- broken by an extension of another kind than its type's definition
  abbrev pub TypeExtensionKindMismatchAt : RuleAt
  TypeExtensionKindMismatchAt before d fault = (e : TypeParts Place) × ((t : TypeDefinition Place) × (
      (type_extension_here d ≡ Some e) × (type_named e.name.it with_built_in ≡ Some t) × (same_kind t.parts.kind e.kind ≡ false)
      × (fault ≡ At d (TypeExtensionKindMismatch e.name.it))))

  -- the definition at some position of the texts breaks the rule with this fault
  abbrev pub BreaksSomewhere : RuleAt → BuildFault → Type 0
  BreaksSomewhere rule fault = AtSomePlace (λ before d. rule before d fault) texts

  -- ---- rules on the components of the schema definition and of the types

  -- DuplicateRootOperation: a schema is valid only if it gives each operation at most one root (section 3.3.1)
  -- broken by a root after another one for the same operation
  abbrev pub DuplicateRootOperationIn : ℕ → BuildFault → Type 0
  DuplicateRootOperationIn first fault = (g : Given Place Root) × (
      IsRepeated root_key (roots_given first with_built_in) g × (fault ≡ record { place = g.it.place; breach = DuplicateRootOperation g.it.it.operation_type }))

  -- in a type of that kind, a component of one class comes after another one of its name
  abbrev pub RepeatedIn : {A : Type 0} → TypeKind → (TypeParts Place → List A) → (Given Place A → List ℕ) → (A → Place) → (List ℕ → List ℕ → Breach) → ℕ → BuildFault → Type 0
  RepeatedIn {A} kind of key place breach first fault = (t : TypeDefinition Place) × ((g : Given Place A) × (
      Contains (firsts type_name (types_in with_built_in)) t × (same_kind t.parts.kind kind ≡ true) × IsRepeated key (components of (numbered first with_built_in) t) g
      × (fault ≡ record { place = place g.it; breach = breach (type_name t) (key g) })))

  -- DuplicateImplementsInterfaceInObject: an object type is valid only if it names each of its interfaces once
  -- (section 3.6)
  abbrev pub DuplicateImplementsInterfaceInObjectIn : ℕ → BuildFault → Type 0
  DuplicateImplementsInterfaceInObjectIn = RepeatedIn kind.Object (λ p. p.interfaces) given_name (λ x. x.place) DuplicateImplementsInterfaceInObject

  -- DuplicateImplementsInterfaceInInterface: an interface type is valid only if it names each of its interfaces once
  -- (section 3.7)
  abbrev pub DuplicateImplementsInterfaceInInterfaceIn : ℕ → BuildFault → Type 0
  DuplicateImplementsInterfaceInInterfaceIn = RepeatedIn kind.Interface (λ p. p.interfaces) given_name (λ x. x.place) DuplicateImplementsInterfaceInInterface

  -- ObjectFieldNameCollision: an object type is valid only if its fields differ in name (section 3.6)
  abbrev pub ObjectFieldNameCollisionIn : ℕ → BuildFault → Type 0
  ObjectFieldNameCollisionIn = RepeatedIn kind.Object (λ p. p.fields) field_key (λ x. x.place) ObjectFieldNameCollision

  -- InterfaceFieldNameCollision: an interface type is valid only if its fields differ in name (section 3.7)
  abbrev pub InterfaceFieldNameCollisionIn : ℕ → BuildFault → Type 0
  InterfaceFieldNameCollisionIn = RepeatedIn kind.Interface (λ p. p.fields) field_key (λ x. x.place) InterfaceFieldNameCollision

  -- EnumValueNameCollision: an enum type is valid only if its values differ in name (section 3.9)
  abbrev pub EnumValueNameCollisionIn : ℕ → BuildFault → Type 0
  EnumValueNameCollisionIn = RepeatedIn kind.Enum (λ p. p.values) value_key (λ x. x.place) EnumValueNameCollision

  -- UnionMemberNameCollision: a union type is valid only if it names each of its members once (section 3.8)
  abbrev pub UnionMemberNameCollisionIn : ℕ → BuildFault → Type 0
  UnionMemberNameCollisionIn = RepeatedIn kind.Union (λ p. p.members) given_name (λ x. x.place) UnionMemberNameCollision

  -- InputFieldNameCollision: an input object type is valid only if its fields differ in name (section 3.10)
  abbrev pub InputFieldNameCollisionIn : ℕ → BuildFault → Type 0
  InputFieldNameCollisionIn = RepeatedIn kind.InputObject (λ p. p.inputs) input_key (λ x. x.place) InputFieldNameCollision

-- a folding rule is broken with this fault
pub data Fails (built_in : Definitions) (first : ℕ) (texts : Definitions) (fault : BuildFault) : Type 0 where
  executable_definition : BreaksSomewhere built_in texts ExecutableDefinitionAt fault → Fails built_in first texts fault
  schema_definition_collision : BreaksSomewhere built_in texts SchemaDefinitionCollisionAt fault → Fails built_in first texts fault
  directive_definition_collision : BreaksSomewhere built_in texts DirectiveDefinitionCollisionAt fault → Fails built_in first texts fault
  type_definition_collision : BreaksSomewhere built_in texts (TypeDefinitionCollisionAt built_in texts) fault → Fails built_in first texts fault
  built_in_scalar_type_redefinition : BreaksSomewhere built_in texts (BuiltInScalarTypeRedefinitionAt built_in texts) fault → Fails built_in first texts fault
  orphan_schema_extension : BreaksSomewhere built_in texts (OrphanSchemaExtensionAt built_in texts) fault → Fails built_in first texts fault
  orphan_type_extension : BreaksSomewhere built_in texts (OrphanTypeExtensionAt built_in texts) fault → Fails built_in first texts fault
  type_extension_kind_mismatch : BreaksSomewhere built_in texts (TypeExtensionKindMismatchAt built_in texts) fault → Fails built_in first texts fault
  duplicate_root_operation : DuplicateRootOperationIn built_in texts first fault → Fails built_in first texts fault
  duplicate_implements_interface_in_object : DuplicateImplementsInterfaceInObjectIn built_in texts first fault → Fails built_in first texts fault
  duplicate_implements_interface_in_interface : DuplicateImplementsInterfaceInInterfaceIn built_in texts first fault → Fails built_in first texts fault
  object_field_name_collision : ObjectFieldNameCollisionIn built_in texts first fault → Fails built_in first texts fault
  interface_field_name_collision : InterfaceFieldNameCollisionIn built_in texts first fault → Fails built_in first texts fault
  enum_value_name_collision : EnumValueNameCollisionIn built_in texts first fault → Fails built_in first texts fault
  union_member_name_collision : UnionMemberNameCollisionIn built_in texts first fault → Fails built_in first texts fault
  input_field_name_collision : InputFieldNameCollisionIn built_in texts first fault → Fails built_in first texts fault

-- no folding rule is broken
abbrev pub FoldingRules : Definitions → ℕ → Definitions → Type 0
FoldingRules built_in first texts = (fault : BuildFault) → Fails built_in first texts fault → ⊥
