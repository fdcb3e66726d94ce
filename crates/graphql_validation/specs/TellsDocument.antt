-- What is told of a document under a schema (GraphQL, October 2021, section 5).
use Rattle.std.specs.Prelude.{◌≡◌, ◌++◌, List, map, Contains, ◌⊎◌, None}
use Rattle.graphql_names.specs.Placed.{Place}
use Rattle.schema_types.specs.SchemaTree.{SchemaTree}
use Rattle.schema_types.specs.Plain.{plain}
use Rattle.spec_document.specs.MeantTree.{MeantFragment, MeantDocument}
use Rattle.spec_document.specs.Unplaced.{unplaced_document}
use Rattle.rule_selections.specs.in_typing.Meanings.{meanings}
use Rattle.rule_selections.specs.in_typing.TypedByPlace.{IsTypedDocument}
use Rattle.rule_document_definitions.specs.DocumentFaults.{OfData, OfDocument, OfLimit}
use Rattle.rule_document_definitions.specs.DocumentRules.{DeferredBreaks}
use Rattle.rule_document_definitions.specs.Fragments.{ReachesItself, UnusedFragmentAt}
use Rattle.rule_document_definitions.specs.Limits.{SpreadBoundFails, PathBoundFails, ChainBoundFails}
use Rattle.rule_document_definitions.specs.Reached.{AtOperation}
use Rattle.rule_document_definitions.specs.Subscriptions.{SubscriptionBreaks}
use Rattle.rule_document_definitions.specs.PlacedDocumentFaults.{PlacedDocumentFault, DocumentFails, DocumentMergingFails, DocumentBoundFails, IsValidDocument, places_alone}
use Rattle.rule_document_definitions.specs.Verdict.{WithinBounds}
use Rattle.rule_fragments.specs.UnlessFull.{TellsUnlessFull}
use Rattle.rule_fragments.specs.Used.{IsUsed}
use Rattle.rule_fragments.specs.Nested.{NestsTooDeep}
use Rattle.rule_merging.specs.in_faults.DetailsTree.{of_document}
use Rattle.graphql_validation.specs.Operations.{OperationFails}
use Rattle.graphql_validation.specs.ValidationFaults.{Telling, AnswersFragment}

module _ (s : SchemaTree Place) (d : MeantDocument Place) where
  -- the document is typed under the schema, as each document that is built
  abbrev pub IsTypedUnder : Type 0
  IsTypedUnder = IsTypedDocument (meanings (plain s)) d

  -- a rule is broken, ignoring those on fragments that reach themselves and on merging
  abbrev pub FailsOtherwise : PlacedDocumentFault → Type 0
  FailsOtherwise (OfData fault) = AtOperation d (λ o. OperationFails d o s fault) ⊎ UnusedFragmentAt d fault
  FailsOtherwise (OfDocument fault) = AtOperation d (λ o. SubscriptionBreaks d o fault) ⊎ DeferredBreaks d fault
  FailsOtherwise (OfLimit place) = ⊥

  -- a rule on documents or on merging is broken, or a bound is passed
  abbrev pub SomeFails : PlacedDocumentFault → Type 0
  SomeFails f = DocumentFails s d f ⊎ (DocumentMergingFails s d f ⊎ DocumentBoundFails d f)

  -- the fields of an operation do not merge, or its chains of fields are too long
  abbrev pub FailsInMerging : PlacedDocumentFault → Type 0
  FailsInMerging f = DocumentMergingFails s d f ⊎ ChainBoundFails places_alone d f

  -- a rule that is not on merging is broken, or a bound other than that on chains is passed
  abbrev pub FailsBesideMerging : PlacedDocumentFault → Type 0
  FailsBesideMerging f = DocumentFails s d f ⊎ (SpreadBoundFails places_alone d f ⊎ PathBoundFails places_alone d f)

  -- these tell all that fails in the document: of cycles, each fragment that reaches itself; of bounds, that on paths if one text passes
  -- it. What does not merge may be told in part
  pub record TellsDocument (told : List PlacedDocumentFault) : Type 0 where
    pub full : (f : PlacedDocumentFault) → FailsOtherwise f → Contains told f
    pub cycles : (g : MeantFragment Place) → IsUsed d g → ReachesItself d g → (f : PlacedDocumentFault) × (Contains told f × AnswersFragment g f)
    pub bound : NestsTooDeep d → Contains told (OfLimit None)

  -- what does not merge is apart: either none of it is told, or nothing else
  abbrev pub MergingStandsApart : List PlacedDocumentFault → Type 0
  MergingStandsApart told = ((f : PlacedDocumentFault) → Contains told f → FailsBesideMerging f) ⊎ ((f : PlacedDocumentFault) → Contains told f → FailsInMerging f)

  -- what fails in the document is appended to what was told: all of it, or 1,000 faults
  abbrev pub DocumentTold : Telling → Telling → Type 0
  DocumentTold old new = (told : List PlacedDocumentFault) × ((new ≡ old ++ map of_document told) × (TellsUnlessFull SomeFails TellsDocument told × MergingStandsApart told))

  -- the same for a document that is typed
  abbrev pub TypedDocumentTold : Telling → Telling → Type 0
  TypedDocumentTold old new = IsTypedUnder → DocumentTold old new

  -- if nothing is told of a typed document, all rules hold, and the fields of each operation merge
  abbrev pub SilenceMeansValid : Telling → Telling → Type 0
  SilenceMeansValid old new = IsTypedUnder → new ≡ old → IsValidDocument s d

  -- if these hold of a typed document, and no bound is passed, nothing is told
  abbrev pub ValidMeansSilence : Telling → Telling → Type 0
  ValidMeansSilence old new = IsTypedUnder → IsValidDocument s d → WithinBounds (unplaced_document d) → new ≡ old
