-- What merging tells of an operation, and what it keeps (GraphQL, October 2021, section 5.3.2).
use Rattle.std.specs.Prelude.{◌≡◌, ◌++◌, ◌∷◌, Bool, true, false, List, [], map, Contains}
use Rattle.graphql_names.specs.Placed.{Place}
use Rattle.rule_field_groups.specs.in_spec_document.MeantTree.{MeantOperation, MeantDocument}
use Rattle.rule_field_groups.specs.in_definitions.Judged.{Judged}
use Rattle.rule_field_groups.specs.in_document_definitions.DocumentFaults.{Broken, OfData, OfDocument, OfLimit}
use Rattle.rule_field_groups.specs.in_document_definitions.Limits.{PassesChainBound}
use Rattle.rule_field_groups.specs.in_document_definitions.Reached.{AtOperation}
use Rattle.rule_field_groups.specs.in_document_definitions.PlacedDocumentFaults.{PlacedDocumentFault}
use Rattle.rule_field_groups.specs.LaterField.{BreaksAtLater}
use Rattle.graphql_faults.specs.DetailsTree.{of_document, Telling}
use Rattle.rule_merging.specs.Verdict.{AreBothSettled}
use Rattle.rule_merging.specs.declared.operation.Examined.{Examined}

module _ (s : Judged) (d : MeantDocument Place) where
  -- the fault tells that a rule on merging breaks in the operation, at the later of two fields in the text, or that the bound on its chains of fields is passed
  abbrev pub MergingFailsAt : MeantOperation Place → PlacedDocumentFault → Type 0
  MergingFailsAt o (OfData fault) = ⊥
  MergingFailsAt o (OfDocument fault) = BreaksAtLater s d o fault
  MergingFailsAt o (OfLimit place) = PassesChainBound d o × (place ≡ o.place)

  -- only such faults are appended to what was told
  abbrev pub MergingTold : MeantOperation Place → Telling → Telling → Type 0
  MergingTold o old new = (added : List PlacedDocumentFault) × ((new ≡ old ++ map of_document added) × ((f : PlacedDocumentFault) → Contains added f → MergingFailsAt o f))

  -- the same for the operations of the document
  abbrev pub DocumentMergingTold : Telling → Telling → Type 0
  DocumentMergingTold old new = (added : List PlacedDocumentFault) × ((new ≡ old ++ map of_document added) × ((f : PlacedDocumentFault) → Contains added f → AtOperation d (λ o. MergingFailsAt o f)))

  -- what was examined is settled, if `is_clean` is true
  abbrev pub AreSettledIf : Bool → Examined → Type 0
  AreSettledIf is_clean examined = is_clean ≡ true → AreBothSettled s d examined

-- what is told of an operation, in order: what breaks the rules, then the bound on chains
abbrev pub limit_told : Place → Bool → List PlacedDocumentFault
limit_told place true = OfLimit place ∷ []
limit_told place false = []

abbrev pub conflicts_told : List (Broken Place) → Place → Bool → List PlacedDocumentFault
conflicts_told breaches place left = map OfDocument breaches ++ limit_told place left
