-- What is told of a document, without places.
use Rattle.fault_document_errors.specs.DocumentBreaches.{Selected, DocumentBreach, TypeSystemDefinition, AmbiguousAnonymousOperation, OperationNameCollision, FragmentNameCollision, UndefinedRootOperation, UndefinedTypeInNamedFragmentTypeCondition, UndefinedTypeInInlineFragmentTypeCondition, SubselectionOnScalarType, SubselectionOnEnumType, UndefinedField, ConflictingFieldName, ConflictingFieldArgument, ConflictingFieldType, SubscriptionUsesMultipleFields, SubscriptionUsesIntrospection, SubscriptionUsesConditionalSelection, DeferLabelMustNotBeVariable, DuplicateDeferLabel, DeferOnRootMutationOrSubscriptionField, DeferInSubscriptionMustBeConditional}
use Rattle.rule_definitions.specs.Diagnostics.{map_places}
use Rattle.rule_definitions.specs.Faults.{FaultAt, wrong}
use Rattle.rule_document_definitions.specs.DocumentFaults.{Broken, broken, DocumentFault, OfData, OfDocument, OfLimit}

module _ {P : Type 0} where
  abbrev pub unplaced_selected : {A : Type 0} → Selected P A → Selected (Unit {0}) A
  unplaced_selected s = record { location = tt; coordinate = s.coordinate; what = s.what }

  abbrev pub unplaced_breach : DocumentBreach P → DocumentBreach (Unit {0})
  unplaced_breach TypeSystemDefinition = TypeSystemDefinition
  unplaced_breach AmbiguousAnonymousOperation = AmbiguousAnonymousOperation
  unplaced_breach (OperationNameCollision name) = OperationNameCollision name
  unplaced_breach (FragmentNameCollision name) = FragmentNameCollision name
  unplaced_breach (UndefinedRootOperation operation_type) = UndefinedRootOperation operation_type
  unplaced_breach (UndefinedTypeInNamedFragmentTypeCondition type_name) = UndefinedTypeInNamedFragmentTypeCondition type_name
  unplaced_breach (UndefinedTypeInInlineFragmentTypeCondition type_name) = UndefinedTypeInInlineFragmentTypeCondition type_name
  unplaced_breach (SubselectionOnScalarType type_name) = SubselectionOnScalarType type_name
  unplaced_breach (SubselectionOnEnumType type_name) = SubselectionOnEnumType type_name
  unplaced_breach (UndefinedField type_name field_name) = UndefinedField type_name field_name
  unplaced_breach (ConflictingFieldName alias original conflicting) = ConflictingFieldName alias (unplaced_selected original) (unplaced_selected conflicting)
  unplaced_breach (ConflictingFieldArgument alias original conflicting) = ConflictingFieldArgument alias (unplaced_selected original) (unplaced_selected conflicting)
  unplaced_breach (ConflictingFieldType alias original conflicting) = ConflictingFieldType alias (unplaced_selected original) (unplaced_selected conflicting)
  unplaced_breach (SubscriptionUsesMultipleFields name) = SubscriptionUsesMultipleFields name
  unplaced_breach (SubscriptionUsesIntrospection name field) = SubscriptionUsesIntrospection name field
  unplaced_breach (SubscriptionUsesConditionalSelection name) = SubscriptionUsesConditionalSelection name
  unplaced_breach DeferLabelMustNotBeVariable = DeferLabelMustNotBeVariable
  unplaced_breach (DuplicateDeferLabel label original_location) = DuplicateDeferLabel label tt
  unplaced_breach (DeferOnRootMutationOrSubscriptionField operation_type) = DeferOnRootMutationOrSubscriptionField operation_type
  unplaced_breach DeferInSubscriptionMustBeConditional = DeferInSubscriptionMustBeConditional

  abbrev pub unplaced_broken : Broken P → Broken (Unit {0})
  unplaced_broken b = broken tt (unplaced_breach b.it)

module _ {P E : Type 0} where
  abbrev pub unplaced_wrong : FaultAt P E → FaultAt (Unit {0}) (Unit {0})
  unplaced_wrong g = wrong tt (map_places (λ p. tt) (λ e. tt) g.breach)

  abbrev pub unplaced_fault : DocumentFault P E → DocumentFault (Unit {0}) (Unit {0})
  unplaced_fault (OfData g) = OfData (unplaced_wrong g)
  unplaced_fault (OfDocument b) = OfDocument (unplaced_broken b)
  unplaced_fault (OfLimit place) = OfLimit tt
