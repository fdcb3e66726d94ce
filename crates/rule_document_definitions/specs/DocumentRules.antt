-- DocumentRules and Merging: the rules on a kept document under a schema (GraphQL, October 2021, section 5).
use Rattle.std.specs.Prelude.{◌⊎◌}
use Rattle.spec_document.specs.MeantTree.{MeantDocument}
use Rattle.rule_definitions.specs.Faults.{FaultAt}
use Rattle.rule_definitions.specs.Judged.{Judged}
use Rattle.rule_document_definitions.specs.Places.{Places}
use Rattle.rule_document_definitions.specs.DocumentFaults.{Broken, DocumentFault, OfData, OfDocument, OfLimit}
use Rattle.rule_document_definitions.specs.Reached.{AtOperation}
use Rattle.rule_document_definitions.specs.Variables.{VariablesBreak}
use Rattle.rule_document_definitions.specs.Fragments.{FragmentsBreak, UnusedFragmentAt}
use Rattle.rule_document_definitions.specs.Selections.{SelectionsBreak}
use Rattle.rule_document_definitions.specs.Merging.{MergingBreaks}
use Rattle.rule_document_definitions.specs.Subscriptions.{SubscriptionBreaks}
use Rattle.rule_document_definitions.specs.Defer.{DeferBreaks, LabelsBreak}

module _ {P E : Type 0} (places : Places P) (s : Judged) (d : MeantDocument P) where
  -- a rule with data is broken, with this fault; each fragment is judged for every operation that reaches it
  abbrev pub DataBreaks : FaultAt P E → Type 0
  DataBreaks fault = AtOperation d (λ o. VariablesBreak places s d o fault ⊎ (SelectionsBreak places s d o fault ⊎ FragmentsBreak places s d o fault))
      ⊎ UnusedFragmentAt d fault

-- a rule on `@defer` is broken in an operation or over the whole document, with this fault
abbrev pub DeferredBreaks : {P : Type 0} → MeantDocument P → Broken P → Type 0
DeferredBreaks d fault = AtOperation d (λ o. DeferBreaks d o fault) ⊎ LabelsBreak d fault

module _ {P E : Type 0} where
  -- DocumentRules: a rule on documents is broken, with this fault
  abbrev pub RulesFail : Places P → Judged → MeantDocument P → DocumentFault P E → Type 0
  RulesFail places s d (OfData fault) = DataBreaks places s d fault
  RulesFail places s d (OfDocument fault) = AtOperation d (λ o. SubscriptionBreaks d o fault) ⊎ DeferredBreaks d fault
  RulesFail places s d (OfLimit place) = ⊥

  -- Merging: a rule on merging is broken, with this fault
  abbrev pub MergingFails : Judged → MeantDocument P → DocumentFault P E → Type 0
  MergingFails s d (OfDocument fault) = AtOperation d (λ o. MergingBreaks s d o fault)
  MergingFails s d _ = ⊥
