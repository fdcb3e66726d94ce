-- If two schemas are equal, with equal marks, and two documents are equal, ignoring places, then rules hold of both or of neither. The
-- fields of an operation merge exactly when their contents do, in the document without places. And a document is valid, which is defined
-- without places, exactly when no fault is told of it at any place.
use Rattle.std.specs.Prelude.{◌≡◌, ◌↔◌, ◌⊎◌}
use Rattle.graphql_names.specs.Placed.{Place}
use Rattle.rule_definitions.specs.in_schema_types.SchemaTree.{SchemaTree}
use Rattle.spec_document.specs.MeantTree.{MeantSet, MeantOperation, MeantDocument}
use Rattle.spec_document.specs.Unplaced.{unplaced_operation, unplaced_document, unplaced_set}
use Rattle.rule_definitions.specs.Laws.{AreEqual}
use Rattle.rule_definitions.specs.Judged.{Judged, judged}
use Rattle.rule_document_definitions.specs.Merging.{FieldsMerge}
use Rattle.rule_document_definitions.specs.Contents.{ContentsMerge}
use Rattle.rule_document_definitions.specs.DocumentRules.{RulesFail, MergingFails}
use Rattle.rule_document_definitions.specs.Limits.{BoundFails}
use Rattle.rule_document_definitions.specs.FieldSets.{FieldSetFails, FieldSetBoundFails}
use Rattle.rule_document_definitions.specs.Standalone.{StandaloneFails}
use Rattle.rule_document_definitions.specs.Verdict.{no_places, UnplacedFault, Merging, WithinBounds, FieldSetWithinBounds}
use Rattle.rule_document_definitions.specs.FaultsUnplaced.{unplaced_fault}
use Rattle.rule_document_definitions.specs.Named.{FragmentsFoundByName}
use Rattle.rule_document_definitions.specs.PlacedDocumentFaults.{PlacedDocumentFault, DocumentFails, DocumentMergingFails, SetRulesFail, DocumentBoundFails, SetBoundFails, DocumentFailsAlone, IsValidDocument, IsValidFieldSet, IsValidAlone}

abbrev pub SameDocumentVerdict : Type 0
SameDocumentVerdict = (a b : SchemaTree Place) → AreEqual a b → (d e : MeantDocument Place) → unplaced_document d ≡ unplaced_document e
    → IsValidDocument a d ↔ IsValidDocument b e

abbrev pub SameBounds : Type 0
SameBounds = (d e : MeantDocument Place) → unplaced_document d ≡ unplaced_document e → WithinBounds (unplaced_document d) ↔ WithinBounds (unplaced_document e)

abbrev pub SameFieldSetVerdict : Type 0
SameFieldSetVerdict = (a b : SchemaTree Place) → AreEqual a b → (d e : MeantSet Place) → unplaced_set d ≡ unplaced_set e
    → IsValidFieldSet a d ↔ IsValidFieldSet b e

abbrev pub SameVerdictAlone : Type 0
SameVerdictAlone = (d e : MeantDocument Place) → unplaced_document d ≡ unplaced_document e → IsValidAlone d ↔ IsValidAlone e

abbrev pub MergesByContents : Type 0
MergesByContents = (s : Judged) (d : MeantDocument Place) (o : MeantOperation Place) → FieldsMerge s d o ↔ ContentsMerge s (unplaced_document d) (unplaced_operation o)

-- ---- the faults without places are those that are told at places, each with its places left out

abbrev pub TellsWithoutPlaces : (PlacedDocumentFault → Type 0) → (UnplacedFault → Type 0) → Type 0
TellsWithoutPlaces Fails FailsUnplaced = (fault : UnplacedFault) → FailsUnplaced fault ↔ ((told : PlacedDocumentFault) × (Fails told × (fault ≡ unplaced_fault told)))

abbrev pub RulesWithoutPlaces : Type 0
RulesWithoutPlaces = (s : SchemaTree Place) (d : MeantDocument Place) → FragmentsFoundByName d
    → TellsWithoutPlaces (DocumentFails s d) (RulesFail no_places (judged s) (unplaced_document d))

abbrev pub MergingWithoutPlaces : Type 0
MergingWithoutPlaces = (s : SchemaTree Place) (d : MeantDocument Place) → TellsWithoutPlaces (DocumentMergingFails s d) (MergingFails (judged s) (unplaced_document d))

abbrev pub SetRulesWithoutPlaces : Type 0
SetRulesWithoutPlaces = (s : SchemaTree Place) (set : MeantSet Place) → TellsWithoutPlaces (SetRulesFail s set) (FieldSetFails no_places (judged s) (unplaced_set set))

abbrev pub RulesAloneWithoutPlaces : Type 0
RulesAloneWithoutPlaces = (d : MeantDocument Place) → FragmentsFoundByName d → TellsWithoutPlaces (DocumentFailsAlone d) (StandaloneFails no_places (unplaced_document d))

abbrev pub BoundsWithoutPlaces : Type 0
BoundsWithoutPlaces = (d : MeantDocument Place) → TellsWithoutPlaces (DocumentBoundFails d) (BoundFails no_places (unplaced_document d))

abbrev pub SetBoundsWithoutPlaces : Type 0
SetBoundsWithoutPlaces = (set : MeantSet Place) → TellsWithoutPlaces (SetBoundFails set) (FieldSetBoundFails no_places (unplaced_set set))

-- ---- so nothing is told exactly when the rules hold; and of bounds, exactly when they are not passed

abbrev pub MergesWhereNothingIsTold : Type 0
MergesWhereNothingIsTold = (s : SchemaTree Place) (d : MeantDocument Place) →
    Merging (judged s) (unplaced_document d) ↔ ((fault : PlacedDocumentFault) → DocumentMergingFails s d fault → ⊥)

abbrev pub ValidWhereNothingIsTold : Type 0
ValidWhereNothingIsTold = (s : SchemaTree Place) (d : MeantDocument Place) → FragmentsFoundByName d
    → IsValidDocument s d ↔ ((fault : PlacedDocumentFault) → DocumentFails s d fault ⊎ DocumentMergingFails s d fault → ⊥)

abbrev pub SetValidWhereNothingIsTold : Type 0
SetValidWhereNothingIsTold = (s : SchemaTree Place) (set : MeantSet Place) → IsValidFieldSet s set ↔ ((fault : PlacedDocumentFault) → SetRulesFail s set fault → ⊥)

abbrev pub ValidAloneWhereNothingIsTold : Type 0
ValidAloneWhereNothingIsTold = (d : MeantDocument Place) → FragmentsFoundByName d → IsValidAlone d ↔ ((fault : PlacedDocumentFault) → DocumentFailsAlone d fault → ⊥)

abbrev pub WithinBoundsWhereNothingIsTold : Type 0
WithinBoundsWhereNothingIsTold = (d : MeantDocument Place) → WithinBounds (unplaced_document d) ↔ ((fault : PlacedDocumentFault) → DocumentBoundFails d fault → ⊥)

abbrev pub SetWithinBoundsWhereNothingIsTold : Type 0
SetWithinBoundsWhereNothingIsTold = (set : MeantSet Place) → FieldSetWithinBounds (unplaced_set set) ↔ ((fault : PlacedDocumentFault) → SetBoundFails set fault → ⊥)
