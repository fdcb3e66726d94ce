-- The rules on documents that stay broken whatever is added to a document: what was left out of it cannot be why they break (GraphQL, October 2021, section 5).
use Rattle.std.specs.Prelude.{◌≡◌, ◌⊎◌}
use Rattle.graphql_names.specs.Placed.{Place}
use Rattle.tree_directives.specs.declared.operation_type.OperationType.TheVariants as operation
use Rattle.schema_types.specs.SchemaTree.{SchemaTree}
use Rattle.spec_document.specs.MeantTree.{MeantOperation, MeantDocument}
use Rattle.rule_definitions.specs.Faults.{FaultAt}
use Rattle.rule_definitions.specs.Judged.{Judged, judged}
use Rattle.rule_document_definitions.specs.Places.{Places}
use Rattle.rule_document_definitions.specs.DocumentFaults.{Broken, DocumentFault, OfData, OfDocument, OfLimit}
use Rattle.rule_document_definitions.specs.Reached.{AtOperation}
use Rattle.rule_document_definitions.specs.Variables.{UniqueVariableAt, UniqueDefaultKeyAt, UndefinedVariableTypeAt, VariableInputTypeAt, DefaultValueBreaks, VariableDirectivesBreak}
use Rattle.rule_document_definitions.specs.Selections.{FieldArgumentsBreak, DirectivesBreak}
use Rattle.rule_document_definitions.specs.Fragments.{InvalidFragmentTargetAt, InvalidFragmentSpreadAt, RecursiveFragmentDefinitionAt}
use Rattle.rule_document_definitions.specs.Subscriptions.{SubscriptionUsesIntrospectionAt, SubscriptionUsesConditionalSelectionAt}
use Rattle.rule_document_definitions.specs.Defer.{DeferBreaks}
use Rattle.rule_document_definitions.specs.PlacedDocumentFaults.{PlacedDocumentFault, places_in}

module _ {P E : Type 0} (places : Places P) (s : Judged) (d : MeantDocument P) where
  -- the rules on the variables of an operation: all but UnusedVariable, since what was left out may use one
  abbrev pub LastingVariablesBreak : MeantOperation P → FaultAt P E → Type 0
  LastingVariablesBreak o fault =
      UniqueVariableAt o fault ⊎ (UniqueDefaultKeyAt o fault ⊎ (UndefinedVariableTypeAt s o fault
      ⊎ (VariableInputTypeAt s o fault ⊎ (DefaultValueBreaks s o fault places ⊎ VariableDirectivesBreak s o fault places))))

  -- the rules on what it selects: all but MissingSubselection
  abbrev pub LastingSelectionsBreak : MeantOperation P → FaultAt P E → Type 0
  LastingSelectionsBreak o fault = FieldArgumentsBreak s d o fault places ⊎ DirectivesBreak s d o fault places

  -- the rules on fragments: all but UndefinedFragment, UnusedFragment and RecursiveFragmentDefinition; of the last some faults are told
  abbrev pub LastingFragmentsBreak : MeantOperation P → FaultAt P E → Type 0
  LastingFragmentsBreak o fault = InvalidFragmentTargetAt s d o fault ⊎ InvalidFragmentSpreadAt s d o fault places

  abbrev pub LastingDataBreaks : MeantOperation P → FaultAt P E → Type 0
  LastingDataBreaks o fault = LastingVariablesBreak o fault ⊎ (LastingSelectionsBreak o fault ⊎ LastingFragmentsBreak o fault)

-- the rules on the root of a subscription: all but SubscriptionUsesMultipleFields, since by `IsPartOf` two fields of a document may be one
-- field of the other document, if nothing tells them apart
abbrev pub LastingSubscriptionBreaks : {P : Type 0} → MeantDocument P → MeantOperation P → Broken P → Type 0
LastingSubscriptionBreaks d o fault =
    (o.operation_type ≡ operation.Subscription) × (SubscriptionUsesIntrospectionAt d o fault ⊎ SubscriptionUsesConditionalSelectionAt d o fault)

module _ {P E : Type 0} where
  -- such a rule is broken; of the rules on `@defer` all but those on labels, which look at the whole document
  abbrev pub LastingBreaks : Places P → Judged → MeantDocument P → DocumentFault P E → Type 0
  LastingBreaks places s d (OfData fault) = AtOperation d (λ o. LastingDataBreaks places s d o fault)
  LastingBreaks places s d (OfDocument fault) = AtOperation d (λ o. DeferBreaks d o fault ⊎ LastingSubscriptionBreaks d o fault)
  LastingBreaks places s d (OfLimit place) = ⊥

  -- a fragment that an operation reaches also reaches itself
  abbrev pub CycleBreaks : Places P → MeantDocument P → DocumentFault P E → Type 0
  CycleBreaks places d (OfData fault) = AtOperation d (λ o. RecursiveFragmentDefinitionAt d fault places o)
  CycleBreaks places d _ = ⊥

module _ (s : SchemaTree Place) (d : MeantDocument Place) where
  -- such a rule is broken, under a schema
  abbrev pub LastingFails : PlacedDocumentFault → Type 0
  LastingFails fault = LastingBreaks (places_in s) (judged s) d fault

  -- such a rule is broken, or a fragment reaches itself
  abbrev pub LastingOrCycleFails : PlacedDocumentFault → Type 0
  LastingOrCycleFails fault = LastingFails fault ⊎ CycleBreaks (places_in s) d fault
