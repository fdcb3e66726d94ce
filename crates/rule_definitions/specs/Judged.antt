-- What rules read of a schema: lookups by name, without places and order, and what is built in. It is the same for equal schemas with
-- equal marks.
use Rattle.std.specs.Prelude.{◌≡◌, ℕ, Bool, true, false, ◌&&◌, List, map, Option, ◌⊎◌}
use Rattle.graphql_names.specs.Placed.{Place}
use Rattle.graphql_names.specs.Places.{is_built_in}
use Rattle.tree_directives.specs.DirectiveTree.{DirectiveTree, Directives, InputValueTree, InputValues, DirectiveDefinitionTree}
use Rattle.tree_directives.specs.declared.directive_location.DirectiveLocation.{DirectiveLocation}
use Rattle.tree_directives.specs.declared.directive_location.DirectiveLocation.TheVariants as location
use Rattle.schema_types.specs.in_type_members.TypeSystemTree.{FieldDefinitionTree, EnumValueTree}
use Rattle.schema_types.specs.SchemaTree.{SchemaTree, SchemaType, same_kind}
use Rattle.schema_types.specs.Plain.{PlainRoots, plain}
use Rattle.schema_types.specs.Looks.{TypeLooks, Looks, looks}
use Rattle.schema_types.specs.Addresses.{Address, TypeAt, FieldAt, InputAt, DirectiveDefinitionAt, ArgumentAt, is_marked}
use Rattle.schema_types.specs.declared.type_kind.TypeKind.{TypeKind}
use Rattle.schema_types.specs.declared.type_kind.TypeKind.TheVariants as kind
use Rattle.rule_definitions.specs.Words.{Somewhere, AtSomeIndex}

pub record Judged : Type 0 where
  pub definition : PlainRoots
  pub directive : List ℕ → Option (DirectiveDefinitionTree (Unit {0}))
  pub type_named : List ℕ → Option TypeLooks
  -- the marks: what is built in
  pub built_in : Address → Bool

abbrev pub judged_by : Looks → (Address → Bool) → Judged
judged_by l marks = record { definition = l.definition; directive = l.directive; type_named = l.type_named; built_in = marks }

abbrev pub judged : SchemaTree Place → Judged
judged s = judged_by (looks (plain s)) (is_marked s)

-- directives that are applied, in order
abbrev pub applied_directives : Directives (Unit {0}) → List (DirectiveTree (Unit {0}))
applied_directives ds = map (λ d. d.it) ds

-- the location of the directives of a type
abbrev pub type_location : TypeKind → DirectiveLocation
type_location kind.Scalar = location.Scalar
type_location kind.Object = location.Object
type_location kind.Interface = location.Interface
type_location kind.Union = location.Union
type_location kind.Enum = location.Enum
type_location kind.InputObject = location.InputObject

-- ---- scalars

-- the type of a schema is a scalar that is built in
abbrev pub is_built_in_scalar : SchemaType Place → Bool
is_built_in_scalar t = same_kind t.kind kind.Scalar && is_built_in t.place

module _ (s : Judged) where
  abbrev pub IsBuiltInScalar : List ℕ → TypeLooks → Type 0
  IsBuiltInScalar n t = (t.kind ≡ kind.Scalar) × (s.built_in (TypeAt n) ≡ true)

  abbrev pub IsCustomScalar : List ℕ → TypeLooks → Type 0
  IsCustomScalar n t = (t.kind ≡ kind.Scalar) × (s.built_in (TypeAt n) ≡ false)

  -- ---- P holds at some place of a schema

  -- a type
  abbrev pub AtType : (List ℕ → TypeLooks → Type 0) → Type 0
  AtType P = Somewhere s.type_named P

  -- a field of an object or interface
  abbrev pub AtField : (List ℕ → List ℕ → FieldDefinitionTree (Unit {0}) → Type 0) → Type 0
  AtField P = AtType (λ n t. Somewhere t.field (λ m f. P n m f))

  -- a value of an enum
  abbrev pub AtValue : (List ℕ → List ℕ → EnumValueTree (Unit {0}) → Type 0) → Type 0
  AtValue P = AtType (λ n t. Somewhere t.value (λ m v. P n m v))

  -- a field of an input object
  abbrev pub AtInputField : (List ℕ → List ℕ → InputValueTree (Unit {0}) → Type 0) → Type 0
  AtInputField P = AtType (λ n t. Somewhere t.input (λ m v. P n m v))

  -- a directive's definition
  abbrev pub AtDirectiveDefinition : (List ℕ → DirectiveDefinitionTree (Unit {0}) → Type 0) → Type 0
  AtDirectiveDefinition P = Somewhere s.directive P

  -- the argument definitions of a field or directive
  abbrev pub AtArguments : (Address → InputValues (Unit {0}) → Type 0) → Type 0
  AtArguments P = AtField (λ n m f. P (FieldAt n m) f.arguments) ⊎ AtDirectiveDefinition (λ n d. P (DirectiveDefinitionAt n) d.arguments)

  -- an argument definition
  abbrev pub AtArgument : (Address → InputValueTree (Unit {0}) → Type 0) → Type 0
  AtArgument P = AtArguments (λ holder vs. AtSomeIndex vs (λ i v. P (ArgumentAt holder i) v.it))

  -- an argument definition or input field
  abbrev pub AtInputValue : (Address → InputValueTree (Unit {0}) → Type 0) → Type 0
  AtInputValue P = AtArgument P ⊎ AtInputField (λ n m v. P (InputAt n m) v)
