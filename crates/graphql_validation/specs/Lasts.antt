-- Which faults are of rules that stay broken, by their variants: what these rules are is in `LastingFails`.
use Rattle.std.specs.Prelude.{Bool, true, false}
use Rattle.fault_document_errors.specs.DocumentBreaches.{DocumentBreach, SubscriptionUsesIntrospection, SubscriptionUsesConditionalSelection, DeferOnRootMutationOrSubscriptionField, DeferInSubscriptionMustBeConditional}
use Rattle.rule_definitions.specs.Diagnostics.{Diagnostic, UnusedVariable, MissingSubselection, UndefinedFragment, UnusedFragment, DeeplyNestedType}
use Rattle.rule_definitions.specs.Faults.{FaultAt}
use Rattle.rule_document_definitions.specs.DocumentFaults.{Broken, OfData, OfDocument, OfLimit}
use Rattle.rule_document_definitions.specs.PlacedDocumentFaults.{PlacedDocumentFault}

module _ {P E : Type 0} where
  abbrev pub data_lasts : Diagnostic P E → Bool
  data_lasts (UnusedVariable name) = false
  data_lasts (MissingSubselection coordinate output_type describe_type) = false
  data_lasts (UndefinedFragment name) = false
  data_lasts (UnusedFragment name) = false
  data_lasts (DeeplyNestedType name describe_type) = false
  data_lasts _ = true

  abbrev pub fault_lasts : FaultAt P E → Bool
  fault_lasts fault = data_lasts fault.breach

module _ {P : Type 0} where
  abbrev pub breach_lasts : DocumentBreach P → Bool
  breach_lasts (SubscriptionUsesIntrospection name field) = true
  breach_lasts (SubscriptionUsesConditionalSelection name) = true
  breach_lasts (DeferOnRootMutationOrSubscriptionField operation_type) = true
  breach_lasts DeferInSubscriptionMustBeConditional = true
  breach_lasts _ = false

  abbrev pub broken_lasts : Broken P → Bool
  broken_lasts fault = breach_lasts fault.it

-- whether a fault of a document lasts
abbrev pub lasts : PlacedDocumentFault → Bool
lasts (OfData fault) = fault_lasts fault
lasts (OfDocument fault) = broken_lasts fault
lasts (OfLimit place) = false
