-- A broken rule of typing documents, of merging, of subscriptions or of @defer, with its data: names and texts, types and values
-- without places, and a P for each place that belongs to the data (GraphQL, October 2021, section 5).
use Rattle.std.specs.Prelude.{ℕ, List, Option}
use Rattle.tree_literals.specs.TypeTree.{TypeTree}
use Rattle.tree_literals.specs.ValueTree.{ValueTree}
use Rattle.tree_operations.specs.in_directives.declared.operation_type.OperationType.{OperationType}
use Rattle.schema_coordinates.specs.Coordinate.{Coordinate}

-- one of two fields that conflict: where it is, its coordinate, and what differs
pub record Selected (P A : Type 0) : Type 0 where
  pub location : P
  pub coordinate : Coordinate
  pub what : A

-- P is the type of the places in the data
pub data DocumentBreach (P : Type 0) : Type 0 where
  TypeSystemDefinition : DocumentBreach P
  AmbiguousAnonymousOperation : DocumentBreach P
  OperationNameCollision : (name : List ℕ) → DocumentBreach P
  FragmentNameCollision : (name : List ℕ) → DocumentBreach P
  UndefinedRootOperation : (operation_type : OperationType) → DocumentBreach P
  UndefinedTypeInNamedFragmentTypeCondition : (type_name : List ℕ) → DocumentBreach P
  UndefinedTypeInInlineFragmentTypeCondition : (type_name : List ℕ) → DocumentBreach P
  SubselectionOnScalarType : (type_name : List ℕ) → DocumentBreach P
  SubselectionOnEnumType : (type_name : List ℕ) → DocumentBreach P
  UndefinedField : (type_name field_name : List ℕ) → DocumentBreach P
  ConflictingFieldName : (alias : List ℕ) (original conflicting : Selected P (Unit {0})) → DocumentBreach P
  ConflictingFieldArgument : (alias : List ℕ) (original conflicting : Selected P (Option (ValueTree (Unit {0})))) → DocumentBreach P
  ConflictingFieldType : (alias : List ℕ) (original conflicting : Selected P (TypeTree (Unit {0}))) → DocumentBreach P
  SubscriptionUsesMultipleFields : (name : Option (List ℕ)) → DocumentBreach P
  SubscriptionUsesIntrospection : (name : Option (List ℕ)) (field : List ℕ) → DocumentBreach P
  SubscriptionUsesConditionalSelection : (name : Option (List ℕ)) → DocumentBreach P
  DeferLabelMustNotBeVariable : DocumentBreach P
  DuplicateDeferLabel : (label : List ℕ) (original_location : P) → DocumentBreach P
  DeferOnRootMutationOrSubscriptionField : (operation_type : OperationType) → DocumentBreach P
  DeferInSubscriptionMustBeConditional : DocumentBreach P

-- what is wrong, and where
pub record TypingFault (P : Type 0) : Type 0 where
  pub place : P
  pub breach : DocumentBreach P
