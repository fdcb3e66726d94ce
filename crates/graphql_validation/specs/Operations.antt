-- What is judged operation by operation, and what is noted of the fragments.
use Rattle.std.specs.Prelude.{◌≡◌, ◌↔◌, ◌++◌, ℕ, Bool, true, false, List, [], ◌∷◌, map, fold, Contains, None, ◌⊎◌}
use Rattle.std.specs.Str.{bytes_eq}
use Rattle.indexmap.specs.IndexSet.{insert_key}
use Rattle.graphql_names.specs.Placed.{Place}
use Rattle.tree_directives.specs.declared.operation_type.OperationType.TheVariants as operation
use Rattle.schema_types.specs.SchemaTree.{SchemaTree}
use Rattle.schema_types.specs.Plain.{plain}
use Rattle.document_typed_selections.specs.TypedTree.{TypedSet}
use Rattle.document_typed_operations.specs.TypedDocument.{TypedOperation}
use Rattle.rule_selections.specs.in_typing.Meanings.{meanings}
use Rattle.spec_document.specs.MeantTree.{MeantOperation, MeantFragment, MeantDocument}
use Rattle.rule_definitions.specs.Room.{◌⊕◌}
use Rattle.rule_definitions.specs.Judged.{judged}
use Rattle.rule_definitions.specs.PlacedFaults.{PlacedFault}
use Rattle.rule_document_definitions.specs.DocumentFaults.{Broken, OfData, OfDocument, OfLimit}
use Rattle.rule_document_definitions.specs.Limits.{SpreadBoundFails}
use Rattle.rule_document_definitions.specs.Reached.{ReachesFragment, AtOperation}
use Rattle.rule_document_definitions.specs.Selected.{operations}
use Rattle.rule_document_definitions.specs.Selections.{SelectionsBreak}
use Rattle.rule_document_definitions.specs.Variables.{VariablesBreak, UniqueVariableAt, UniqueDefaultKeyAt, UnusedVariableAt}
use Rattle.rule_document_definitions.specs.Fragments.{ReachesItself, UndefinedFragmentAt, UnusedFragmentAt, InvalidFragmentTargetAt, InvalidFragmentSpreadAt, FragmentsBreak}
use Rattle.rule_document_definitions.specs.Standalone.{GivenInBreaks, OperationBreaksAlone}
use Rattle.rule_document_definitions.specs.PlacedDocumentFaults.{PlacedDocumentFault, places_in, places_alone}
use Rattle.rule_selections.specs.Typed.{ReachesTyped}
use Rattle.rule_fragments.specs.FragmentCycles.{Answers, TellsFragmentCycles}
use Rattle.rule_fragments.specs.Used.{IsUsed}
use Rattle.rule_fragments.specs.UnlessFull.{TellsUnlessFull}

module _ (d : MeantDocument Place) (o : MeantOperation Place) where
  -- a rule without a schema is broken in an operation, ignoring that on fragments that reach themselves
  abbrev pub OperationFailsAlone : PlacedFault → Type 0
  OperationFailsAlone fault =
      UniqueVariableAt o fault ⊎ (UniqueDefaultKeyAt o fault ⊎ (UnusedVariableAt o fault places_alone d
      ⊎ (UndefinedFragmentAt d fault o ⊎ GivenInBreaks places_alone d fault o)))

  -- the same under a schema
  abbrev pub OperationFails : SchemaTree Place → PlacedFault → Type 0
  OperationFails s fault =
      VariablesBreak (places_in s) (judged s) d o fault ⊎ (SelectionsBreak (places_in s) (judged s) d o fault
      ⊎ (UndefinedFragmentAt d fault o ⊎ (InvalidFragmentTargetAt (judged s) d o fault ⊎ InvalidFragmentSpreadAt (judged s) d o fault (places_in s))))

  -- the operation reaches a fragment of this name
  abbrev pub ReachesNamed : List ℕ → Type 0
  ReachesNamed n = (f : MeantFragment Place) × (ReachesFragment d o f × (f.name.it ≡ n))

-- what each operation reaches is typed
abbrev pub AreReachesTyped : SchemaTree Place → MeantDocument Place → Type 0
AreReachesTyped s d = (o : MeantOperation Place) → Contains (operations d) o → ReachesTyped (meanings (plain s)) d o

-- the new names are exactly the old ones and those for which Q holds
abbrev pub NotesNames : List (List ℕ) → List (List ℕ) → (List ℕ → Type 0) → Type 0
NotesNames old new Q = (n : List ℕ) → Contains new n ↔ (Contains old n ⊎ Q n)

-- the names, and after them those of the fragments that are new
abbrev pub with_fragments : List (List ℕ) → List (MeantFragment Place) → List (List ℕ)
with_fragments = fold (λ ns f. insert_key bytes_eq ns f.name.it)

-- after these faults come those of the fragments that no operation reaches, and then those of the fragments that reach themselves
abbrev pub FragmentsTold : MeantDocument Place → List PlacedFault → List PlacedFault → Type 0
FragmentsTold d old new = (unused : List PlacedFault) × (((f : PlacedFault) → Contains unused f ↔ UnusedFragmentAt d f) × TellsFragmentCycles d (old ⊕ unused) new)

-- a fault with data of a document, where `All` are the faults of an operation
abbrev pub DataFails : MeantDocument Place → (MeantOperation Place → PlacedFault → Type 0) → PlacedFault → Type 0
DataFails d All f = (AtOperation d (λ o. All o f) ⊎ UnusedFragmentAt d f) ⊎ SpreadBoundFails places_alone d (OfData f)

-- all of them are told, where `Beside` are the faults of an operation but for fragments that reach themselves; for each of these some fault `Answers`
pub record TellsData (d : MeantDocument Place) (Beside : MeantOperation Place → PlacedFault → Type 0) (told : List PlacedFault) : Type 0 where
  pub full : (f : PlacedFault) → AtOperation d (λ o. Beside o f) ⊎ UnusedFragmentAt d f → Contains told f
  pub cycles : (g : MeantFragment Place) → IsUsed d g → ReachesItself d g → (f : PlacedFault) × (Contains told f × Answers g f)

-- these are all faults with data of a document, or 1,000 of them
abbrev pub DataTold : MeantDocument Place → (All Beside : MeantOperation Place → PlacedFault → Type 0) → List PlacedFault → Type 0
DataTold d All Beside = TellsUnlessFull (DataFails d All) (TellsData d Beside)

-- the faults with data of all rules on an operation, without a schema; under a schema
abbrev pub AllAlone : MeantDocument Place → MeantOperation Place → PlacedFault → Type 0
AllAlone d o f = OperationBreaksAlone places_alone d f o

abbrev pub AllUnder : SchemaTree Place → MeantDocument Place → MeantOperation Place → PlacedFault → Type 0
AllUnder s d o f = VariablesBreak (places_in s) (judged s) d o f ⊎ (SelectionsBreak (places_in s) (judged s) d o f ⊎ FragmentsBreak (places_in s) (judged s) d o f)

-- ---- what is told, in order: faults with data, then others, then the bound on how deep selections nest

abbrev pub bound_told : Bool → List PlacedDocumentFault
bound_told true = OfLimit None ∷ []
bound_told false = []

abbrev pub all_told : List PlacedFault → List (Broken Place) → Bool → List PlacedDocumentFault
all_told faults breaches is_passed = map OfData faults ++ (map OfDocument breaches ++ bound_told is_passed)

-- ---- field sets

-- a query that selects the set, and has nothing else
abbrev pub query_on : TypedSet Place → TypedOperation Place
query_on set = record { operation_type = operation.Query; name = None; variables = []; directives = []; set = set }
