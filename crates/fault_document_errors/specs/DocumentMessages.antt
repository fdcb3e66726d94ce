-- The message of a broken rule of documents: its template, filled with its data.
use Rattle.std.specs.Prelude.{ℕ, List, ◌++◌, codes}
use Rattle.tree_operations.specs.OperationQueries.{operation_keyword}
use Rattle.fault_document_errors.specs.DocumentBreaches.{DocumentBreach, TypeSystemDefinition, AmbiguousAnonymousOperation, OperationNameCollision, FragmentNameCollision, UndefinedRootOperation, UndefinedTypeInNamedFragmentTypeCondition, UndefinedTypeInInlineFragmentTypeCondition, SubselectionOnScalarType, SubselectionOnEnumType, UndefinedField, ConflictingFieldName, ConflictingFieldArgument, ConflictingFieldType, SubscriptionUsesMultipleFields, SubscriptionUsesIntrospection, SubscriptionUsesConditionalSelection, DeferLabelMustNotBeVariable, DuplicateDeferLabel, DeferOnRootMutationOrSubscriptionField, DeferInSubscriptionMustBeConditional}

module _ {P : Type 0} where
  abbrev pub document_message : DocumentBreach P → List ℕ
  document_message TypeSystemDefinition = codes "a document must not hold a type system definition"
  document_message AmbiguousAnonymousOperation = codes "an anonymous operation must stand alone"
  document_message (OperationNameCollision name) = codes "`" ++ (name ++ codes "` is defined more than once")
  document_message (FragmentNameCollision name) = codes "`" ++ (name ++ codes "` is defined more than once")
  document_message (UndefinedRootOperation operation_type) = codes "the schema has no " ++ (operation_keyword operation_type ++ codes " root")
  document_message (UndefinedTypeInNamedFragmentTypeCondition type_name) = codes "the type condition `" ++ (type_name ++ codes "` is not defined")
  document_message (UndefinedTypeInInlineFragmentTypeCondition type_name) = codes "the type condition `" ++ (type_name ++ codes "` is not defined")
  document_message (SubselectionOnScalarType type_name) = codes "`" ++ (type_name ++ codes "` has no fields to select")
  document_message (SubselectionOnEnumType type_name) = codes "`" ++ (type_name ++ codes "` has no fields to select")
  document_message (UndefinedField type_name field_name) = codes "`" ++ (type_name ++ (codes "` has no field `" ++ (field_name ++ codes "`")))
  document_message (ConflictingFieldName alias original conflicting) = codes "`" ++ (alias ++ codes "` is selected with different fields")
  document_message (ConflictingFieldArgument alias original conflicting) = codes "`" ++ (alias ++ codes "` is selected with different arguments")
  document_message (ConflictingFieldType alias original conflicting) = codes "`" ++ (alias ++ codes "` is selected with different types")
  document_message (SubscriptionUsesMultipleFields name) = codes "a subscription must have one root field"
  document_message (SubscriptionUsesIntrospection name field) = codes "a subscription must not select `" ++ (field ++ codes "` at its root")
  document_message (SubscriptionUsesConditionalSelection name) = codes "a subscription must not use @skip or @include at its root"
  document_message DeferLabelMustNotBeVariable = codes "a label of @defer must not be a variable"
  document_message (DuplicateDeferLabel label original_location) = codes "the label is used more than once"
  document_message (DeferOnRootMutationOrSubscriptionField operation_type) = codes "@defer must not stand at the root of a " ++ operation_keyword operation_type
  document_message DeferInSubscriptionMustBeConditional = codes "@defer in a subscription must be conditional"
