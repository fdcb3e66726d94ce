-- A valid schema: every rule of section 3, as the specification states it, holds of what the schema's definitions fold to. Faults and places play no
-- part. Folding (names that differ, extensions of what is defined) comes before it.
use Rattle.std.specs.Prelude.{◌≡◌, ℕ, false, List, Some}
use Rattle.tree_directives.specs.DirectiveTree.{DirectiveTree, InputValueTree, DirectiveDefinitionTree}
use Rattle.tree_directives.specs.declared.operation_type.OperationType.{OperationType}
use Rattle.tree_directives.specs.declared.directive_location.DirectiveLocation.TheVariants as location
use Rattle.schema_types.specs.Looks.{TypeLooks}
use Rattle.schema_types.specs.Addresses.{DirectiveDefinitionAt}
use Rattle.schema_types.specs.declared.type_kind.TypeKind.TheVariants as kind
use Rattle.rule_definitions.specs.Words.{Present, Somewhere, AtSomeIndex}
use Rattle.rule_definitions.specs.Judged.{Judged, applied_directives}
use Rattle.rule_definitions.specs.RootTypes.{root_type_of, root_types_in}
use Rattle.rule_definitions.specs.Names.{named_in}
use Rattle.rule_definitions.specs.Things.{Thing, ADirective, AType}
use Rattle.rule_document_definitions.specs.Reached.{Closed}
use Rattle.book_validity.specs.Words.{Never, IsThere, AreUnique}
use Rattle.book_validity.specs.Members.{IsNameAllowed, AreApplied, AreArgumentDefinitionsValid}
use Rattle.book_validity.specs.Types.{IsValidType}

-- 3.3.1 Root Operation Types
pub record AreRootsValid (s : Judged) : Type 0 where
  -- "The query root operation type must be provided and must be an Object type."
  pub query : IsThere s.definition.query
  -- and so must the others, if they are provided: "it must be an Object type"
  pub objects : (o : OperationType) (n : List ℕ) → root_type_of s.definition o ≡ Some n → Present (s.type_named n) (λ t. t.kind ≡ kind.Object)
  -- "The query, mutation, and subscription root types must all be different types if provided."
  pub different : AreUnique (λ r. r.1) (root_types_in s.definition)
  pub directives : AreApplied s location.Schema s.definition.directives

-- ---- 3.13: what a directive or type refers to

module _ (s : Judged) where
  -- one of these applied directives has the name m, and that directive is defined
  abbrev pub Applies : List (DirectiveTree (Unit {0})) → List ℕ → Type 0
  Applies ds m = AtSomeIndex ds (λ i d. d.name.it ≡ m) × IsThere (s.directive m)

  -- the type named inside the type of an argument or input field has the name m, and it exists
  abbrev pub IsOf : InputValueTree (Unit {0}) → List ℕ → Type 0
  IsOf v m = (named_in v.ty.it ≡ m) × IsThere (s.type_named m)

-- the first refers to the second, directly, in one of these ways
pub data References (s : Judged) : Thing → Thing → Type 0 where
  -- a directive, by a directive that is applied to one of its arguments
  by_directive_of_argument : {n m : List ℕ} → Present (s.directive n) (λ d. AtSomeIndex d.arguments (λ i v. Applies s (applied_directives v.it.directives) m)) → References s (ADirective n) (ADirective m)
  -- a directive, by the type of one of its arguments
  by_type_of_argument : {n m : List ℕ} → Present (s.directive n) (λ d. AtSomeIndex d.arguments (λ i v. IsOf s v.it m)) → References s (ADirective n) (AType m)
  -- a directive, by one that is applied to its definition
  by_directive_of_definition : {n m : List ℕ} → Present (s.directive n) (λ d. Applies s (applied_directives d.directives) m) → References s (ADirective n) (ADirective m)
  -- a type, by a directive that is applied to it
  by_directive_of_type : {n m : List ℕ} → Present (s.type_named n) (λ t. Applies s t.directives m) → References s (AType n) (ADirective m)
  -- an enum, by a directive that is applied to one of its values
  by_directive_of_value : {n m : List ℕ} → Present (s.type_named n) (λ t. Somewhere t.value (λ k v. Applies s (applied_directives v.directives) m)) → References s (AType n) (ADirective m)
  -- an input object, by a directive that is applied to one of its fields
  by_directive_of_input_field : {n m : List ℕ} → Present (s.type_named n) (λ t. Somewhere t.input (λ k v. Applies s (applied_directives v.directives) m)) → References s (AType n) (ADirective m)
  -- an input object, by the type of one of its fields
  by_type_of_input_field : {n m : List ℕ} → Present (s.type_named n) (λ t. Somewhere t.input (λ k v. IsOf s v m)) → References s (AType n) (AType m)

-- 3.13 Directives
pub record IsValidDirectiveDefinition (s : Judged) (n : List ℕ) (d : DirectiveDefinitionTree (Unit {0})) : Type 0 where
  pub allowed : IsNameAllowed s (DirectiveDefinitionAt n) n
  pub arguments : AreArgumentDefinitionsValid s (DirectiveDefinitionAt n) d.arguments
  -- "must not contain the use of a directive which references itself directly", nor "indirectly by referencing a Type or Directive
  -- which transitively includes a reference to this directive"
  pub acyclic : Never (Closed (References s (ADirective n)) (References s) (ADirective n))
  -- Laxer: October 2021 has no directives on a directive's definition
  -- 5.7 Directives
  pub directives : s.built_in (DirectiveDefinitionAt n) ≡ false → AreApplied s location.DirectiveDefinition (applied_directives d.directives)

pub record IsValidSchema (s : Judged) : Type 0 where
  pub roots : AreRootsValid s
  pub types : (n : List ℕ) (t : TypeLooks) → s.type_named n ≡ Some t → IsValidType s n t
  pub directives : (n : List ℕ) (d : DirectiveDefinitionTree (Unit {0})) → s.directive n ≡ Some d → IsValidDirectiveDefinition s n d
