-- What is told of a document, and of a field set (GraphQL, October 2021, section 5).
use Rattle.std.specs.Prelude.{◌≡◌, ℕ, List, ◌++◌, map, Contains, ◌⊎◌, None}
use Rattle.graphql_names.specs.Placed.{Place}
use Rattle.schema_types.specs.SchemaTree.{SchemaTree}
use Rattle.schema_types.specs.Plain.{plain}
use Rattle.document_typed_selections.specs.TypedTree.{typed_set_tree}
use Rattle.document_typed_operations.specs.declared.document.FieldSet.{FieldSet}
use Rattle.spec_document.specs.MeantTree.{MeantSet, MeantFragment, MeantDocument, meant_of_set}
use Rattle.spec_document.specs.Unplaced.{unplaced_document, unplaced_set}
use Rattle.rule_selections.specs.in_typing.Meanings.{meanings}
use Rattle.rule_selections.specs.in_typing.TypedByPlace.{IsSetOn}
use Rattle.rule_definitions.specs.PlacedFaults.{PlacedFault}
use Rattle.rule_document_definitions.specs.DocumentFaults.{OfData, OfDocument, OfLimit}
use Rattle.rule_document_definitions.specs.FieldSets.{document_of_set}
use Rattle.rule_document_definitions.specs.Reached.{AtOperation}
use Rattle.rule_document_definitions.specs.Fragments.{ReachesItself, UnusedFragmentAt}
use Rattle.rule_document_definitions.specs.DocumentRules.{DeferredBreaks}
use Rattle.rule_document_definitions.specs.PlacedDocumentFaults.{PlacedDocumentFault, SetRulesFail, SetBoundFails, DocumentBoundFails, DocumentFailsAlone, IsValidFieldSet, IsValidAlone}
use Rattle.rule_document_definitions.specs.Verdict.{WithinBounds, FieldSetWithinBounds}
use Rattle.rule_merging.specs.in_faults.DetailsTree.{of_document}
pub use Rattle.rule_merging.specs.in_faults.DetailsTree.{Telling}
use Rattle.graphql_faults.specs.Once.{EachOnce}
use Rattle.rule_fragments.specs.UnlessFull.{TellsUnlessFull}
use Rattle.rule_fragments.specs.Used.{IsUsed, AreUnderOwnNames}
use Rattle.rule_fragments.specs.FragmentCycles.{Answers}
use Rattle.rule_fragments.specs.Nested.{NestsTooDeep}
use Rattle.graphql_validation.specs.Operations.{OperationFailsAlone}

-- no two faults that are appended to what was told are equal, unless they are 1,000 or more
abbrev pub TellsOnce : Telling → Telling → Type 0
TellsOnce old new = (told : List PlacedDocumentFault) × ((new ≡ old ++ map of_document told) × EachOnce told)

-- the fault tells that the fragment reaches itself, or that paths of spreads from it are too long
abbrev pub AnswersFragment : MeantFragment Place → PlacedDocumentFault → Type 0
AnswersFragment g told = (f : PlacedFault) × ((told ≡ OfData f) × Answers g f)

-- a rule without a schema is broken, ignoring that on fragments that reach themselves
abbrev pub FailsAloneBesideCycles : MeantDocument Place → PlacedDocumentFault → Type 0
FailsAloneBesideCycles d (OfData fault) = AtOperation d (λ o. OperationFailsAlone d o fault) ⊎ UnusedFragmentAt d fault
FailsAloneBesideCycles d (OfDocument fault) = DeferredBreaks d fault
FailsAloneBesideCycles d (OfLimit place) = ⊥

-- a rule without a schema is broken, or a bound is passed
abbrev pub RuleOrBoundFailsAlone : MeantDocument Place → PlacedDocumentFault → Type 0
RuleOrBoundFailsAlone d f = DocumentFailsAlone d f ⊎ DocumentBoundFails d f

-- these tell all that fails in the document without a schema: of cycles, each fragment that reaches itself; of bounds, that on paths if one
-- text passes it
pub record TellsAlone (d : MeantDocument Place) (told : List PlacedDocumentFault) : Type 0 where
  pub full : (f : PlacedDocumentFault) → FailsAloneBesideCycles d f → Contains told f
  pub cycles : (g : MeantFragment Place) → IsUsed d g → ReachesItself d g → (f : PlacedDocumentFault) × (Contains told f × AnswersFragment g f)
  pub bound : NestsTooDeep d → Contains told (OfLimit None)

-- what fails in the document without a schema is appended to what was told: all of it, or 1,000 faults
abbrev pub AloneTold : MeantDocument Place → Telling → Telling → Type 0
AloneTold d old new = (told : List PlacedDocumentFault) × ((new ≡ old ++ map of_document told) × TellsUnlessFull (RuleOrBoundFailsAlone d) (TellsAlone d) told)

-- for a document whose fragments are under their own names, as in each that is built
module _ (d : MeantDocument Place) where
  -- what fails in it without a schema is appended to what was told, all of it or 1,000 faults
  abbrev pub NamedAloneTold : Telling → Telling → Type 0
  NamedAloneTold old new = AreUnderOwnNames d → AloneTold d old new

  -- if nothing is told, the rules without a schema hold
  abbrev pub SilenceMeansValidAlone : Telling → Telling → Type 0
  SilenceMeansValidAlone old new = AreUnderOwnNames d → new ≡ old → IsValidAlone d

  -- if they hold and no bound is passed, nothing is told
  abbrev pub ValidAloneMeansSilence : Telling → Telling → Type 0
  ValidAloneMeansSilence old new = AreUnderOwnNames d → IsValidAlone d → WithinBounds (unplaced_document d) → new ≡ old

-- the meaning of a field set; it is typed on some type of the schema, as each that is made from selections
abbrev pub set_meant : FieldSet → MeantSet Place
set_meant set = meant_of_set (typed_set_tree set.selection_set)

abbrev pub IsTypedSet : SchemaTree Place → MeantSet Place → Type 0
IsTypedSet s set = (t : List ℕ) × IsSetOn (meanings (plain s)) t set

-- a rule on field sets is broken, or a bound is passed: field sets have no fragments of their own
abbrev pub SetRulesOrBoundFail : SchemaTree Place → MeantSet Place → PlacedDocumentFault → Type 0
SetRulesOrBoundFail s set f = SetRulesFail s set f ⊎ SetBoundFails set f

-- these tell all that fails in the field set: of bounds, that on paths if one text passes it
pub record TellsFieldSet (s : SchemaTree Place) (set : MeantSet Place) (told : List PlacedDocumentFault) : Type 0 where
  pub full : (f : PlacedDocumentFault) → SetRulesFail s set f → Contains told f
  pub bound : NestsTooDeep (document_of_set None set) → Contains told (OfLimit None)

-- what fails in the field set is appended to what was told: all of it, or 1,000 faults
abbrev pub FieldSetTold : SchemaTree Place → MeantSet Place → Telling → Telling → Type 0
FieldSetTold s set old new = (told : List PlacedDocumentFault) × ((new ≡ old ++ map of_document told) × TellsUnlessFull (SetRulesOrBoundFail s set) (TellsFieldSet s set) told)

-- for a field set that is typed
module _ (s : SchemaTree Place) (set : MeantSet Place) where
  -- what fails in it is appended to what was told, all of it or 1,000 faults
  abbrev pub TypedFieldSetTold : Telling → Telling → Type 0
  TypedFieldSetTold old new = IsTypedSet s set → FieldSetTold s set old new

  -- if nothing is told, the rules on field sets hold
  abbrev pub SilenceMeansValidSet : Telling → Telling → Type 0
  SilenceMeansValidSet old new = IsTypedSet s set → new ≡ old → IsValidFieldSet s set

  -- if they hold and the bound is not passed, nothing is told
  abbrev pub ValidSetMeansSilence : Telling → Telling → Type 0
  ValidSetMeansSilence old new = IsTypedSet s set → IsValidFieldSet s set → FieldSetWithinBounds (unplaced_set set) → new ≡ old
