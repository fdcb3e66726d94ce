-- Private: leads to `DataTold` and `TellsDocument`. What the checks of operations find and note, and what is told at the end, in terms of the program's types.
use Rattle.std.specs.Prelude.{◌≡◌, ◌++◌, List, [], map, take, Option, Contains, ◌⊎◌}
use Rattle.indexmap.specs.IndexMap.{IndexMap}
use Rattle.graphql_names.specs.NameValue.{NameValue}
use Rattle.graphql_names.specs.Placed.{Place}
use Rattle.graphql_names.specs.declared.node.Node.{Node}
use Rattle.schema_types.specs.SchemaTree.{SchemaTree}
use Rattle.schema_types.specs.Plain.{plain}
use Rattle.document_typed_operations.specs.declared.operation.Fragment.{Fragment}
use Rattle.spec_document.specs.MeantTree.{MeantOperation, MeantDocument}
use Rattle.rule_selections.specs.in_typing.Meanings.{meanings}
use Rattle.fault_data.specs.Adds.{Adds}
use Rattle.fault_data.specs.FaultView.{faults_of}
use Rattle.graphql_faults.specs.Added.{AddsNew, TellsAll}
use Rattle.graphql_faults.specs.Once.{EachOnce}
use Rattle.rule_definitions.specs.Room.{most_told}
use Rattle.rule_merging.specs.in_faults.DetailsTree.{of_document}
use Rattle.rule_merging.specs.in_faults.DetailsView.{diagnostics_of}
use Rattle.rule_merging.specs.in_faults.declared.diagnostic_list.DiagnosticList.{DiagnosticList}
use Rattle.rule_definitions.specs.Judged.{judged}
use Rattle.rule_definitions.specs.PlacedFaults.{PlacedFault}
use Rattle.rule_document_definitions.specs.Merging.{FieldsMerge}
use Rattle.rule_document_definitions.specs.Reached.{AtOperation}
use Rattle.rule_document_definitions.specs.Selected.{operations}
use Rattle.rule_document_definitions.specs.PlacedDocumentFaults.{PlacedDocumentFault}
use Rattle.rule_fragments.specs.in_reach.NotedNames.{noted_names}
use Rattle.rule_fragments.specs.in_reach.Reach.{meant_fragments}
use Rattle.rule_fragments.specs.Possible.{ObjectsOfTypes, ArePossibleIfFound}
use Rattle.rule_fragments.specs.UnlessFull.{IsFull, HasAll, TellsUnlessFull}
use Rattle.rule_fragments.specs.Used.{AreUnderOwnNames, AreUsed}
use Rattle.rule_merging.specs.Merged.{MergingFailsAt}
use Rattle.rule_selections.specs.Settled.{MayReplaceWith, MayReplaceInEach}
use Rattle.rule_selections.specs.Typed.{ReachesTyped}
use Rattle.graphql_validation.specs.Operations.{OperationFailsAlone, OperationFails, ReachesNamed, AreReachesTyped, NotesNames, FragmentsTold, DataTold, AllAlone, AllUnder}
use Rattle.graphql_validation.specs.declared.found.Found.{Found}

-- the old list, and then these faults of documents
abbrev pub AddsDetails : DiagnosticList → DiagnosticList → List PlacedDocumentFault → Type 0
AddsDetails old new told = diagnostics_of new ≡ diagnostics_of old ++ map of_document told

-- the names of the fragments that an operation reaches are noted; those that some operation of a document reaches, unless the list is full
abbrev pub NotesReached : MeantDocument Place → MeantOperation Place → Found → Found → Type 0
NotesReached d o old new = NotesNames (noted_names old.used) (noted_names new.used) (ReachesNamed d o)

abbrev pub NotesAllReached : MeantDocument Place → Found → Type 0
NotesAllReached d found = IsFull (faults_of found.faults) ⊎ NotesNames [] (noted_names found.used) (λ n. AtOperation d (λ o. ReachesNamed d o n))

-- the faults of an operation alone, if they are as many as a call tells; otherwise what was found before, and then what of these is new
abbrev pub Joins : {A : Type 0} → (before own new : List A) → Type 0
Joins before own new = (IsFull own × (new ≡ own)) ⊎ ((IsFull own → ⊥) × (AddsNew before own new × TellsAll own new))

-- If the list is full, nothing follows these faults; if it is not, fragments are under their own names, and the names are those that
-- operations reach, the faults of all fragments follow.
abbrev pub TellsFragments : MeantDocument Place → Found → List PlacedFault → Type 0
TellsFragments d found told = (IsFull (faults_of found.faults) → told ≡ faults_of found.faults)
    × ((IsFull (faults_of found.faults) → ⊥) → AreUnderOwnNames d → AreUsed d (noted_names found.used) → FragmentsTold d (faults_of found.faults) told)

-- what fails in the operations of a document is found: all of it, unless the list is full
abbrev pub FindsAll : MeantDocument Place → (MeantOperation Place → PlacedFault → Type 0) → Found → Type 0
FindsAll d Fails found = TellsUnlessFull (λ f. AtOperation d (λ o. Fails o f)) (HasAll (λ f. AtOperation d (λ o. Fails o f))) (faults_of found.faults)

-- ---- without a schema

-- what is found in an operation; in all operations of a document
abbrev pub FindsAlone : MeantDocument Place → MeantOperation Place → Found → Found → Type 0
FindsAlone d o old new = Adds old.faults new.faults (OperationFailsAlone d o)

abbrev pub FindsAllAlone : MeantDocument Place → Found → Type 0
FindsAllAlone d found = FindsAll d (OperationFailsAlone d) found

abbrev pub TellsAlone : MeantDocument Place → List PlacedFault → Type 0
TellsAlone d told = AreUnderOwnNames d → DataTold d (AllAlone d) (OperationFailsAlone d) told

-- ---- under a schema

-- fragments under their names
abbrev pub FragmentsOf : Type 0 → Type 0
FragmentsOf S = IndexMap NameValue (Node Fragment) S

module _ (s : SchemaTree Place) where
  -- if the possible types that were found are right, those found now are
  abbrev pub StayPossible : Option ObjectsOfTypes → Option ObjectsOfTypes → Type 0
  StayPossible old new = ArePossibleIfFound (judged s) old → ArePossibleIfFound (judged s) new

  -- what is found in an operation, for any document whose fragments these may replace
  abbrev pub FindsUnder : {S : Type 0} → FragmentsOf S → MeantOperation Place → Option ObjectsOfTypes → Found → Found → Type 0
  FindsUnder fragments o possible old new = (d : MeantDocument Place) → MayReplaceWith s o.variables d.fragments (meant_fragments fragments) → ReachesTyped (meanings (plain s)) d o → ArePossibleIfFound (judged s) possible
      → Adds old.faults new.faults (OperationFails d o s)

  abbrev pub NotesUnder : {S : Type 0} → FragmentsOf S → MeantOperation Place → Found → Found → Type 0
  NotesUnder fragments o old new = (d : MeantDocument Place) → MayReplaceWith s o.variables d.fragments (meant_fragments fragments) → NotesReached d o old new

  module _ (d : MeantDocument Place) where
    -- what is found in the operations of the document, if these may replace its fragments
    abbrev pub FindsAllUnder : {S : Type 0} → FragmentsOf S → Option ObjectsOfTypes → Found → Type 0
    FindsAllUnder fragments possible found = MayReplaceInEach s d (meant_fragments fragments) → AreReachesTyped s d → ArePossibleIfFound (judged s) possible
        → FindsAll d (λ o. OperationFails d o s) found

    abbrev pub NotesAllUnder : {S : Type 0} → FragmentsOf S → Found → Type 0
    NotesAllUnder fragments found = MayReplaceInEach s d (meant_fragments fragments) → NotesAllReached d found

    abbrev pub TellsUnder : List PlacedFault → Type 0
    TellsUnder told = AreReachesTyped s d → AreUnderOwnNames d → DataTold d (AllUnder s d) (λ o. OperationFails d o s) told

    -- the first 1,000 of what merging tells of the operations of the document; no two are equal, unless they are 1,000 or more
    abbrev pub TellsMerging : DiagnosticList → DiagnosticList → Type 0
    TellsMerging old new = (all : List PlacedDocumentFault) × (AddsDetails old new (take most_told all) × (EachOnce all × ((f : PlacedDocumentFault) → Contains all f → AtOperation d (λ o. MergingFailsAt (judged s) d o f))))

    -- the fields of each operation merge
    abbrev pub AllMerge : Type 0
    AllMerge = (o : MeantOperation Place) → Contains (operations d) o → FieldsMerge (judged s) d o
