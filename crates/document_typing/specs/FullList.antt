-- When a list of faults accounts for everything that typing leaves out.
use Rattle.std.specs.Prelude.{◌≡◌, ℕ, ◌<◌, Bool, false, not, ◌&&◌, List, [], length, Contains, None, is_some, if◌then◌else◌}
use Rattle.std.specs.List.{filter}
use Rattle.tree_operations.specs.OperationLayout.{is_none}
use Rattle.tree_operations.specs.OperationTree.{OperationTree}
use Rattle.tree_operations.specs.SelectionTree.{SelectionTree, SelectionTrees}
use Rattle.tree_definitions.specs.DefinitionTree.{DefinitionTree, Operation, Fragment}
use Rattle.schema_types.specs.in_components.Lists.{StandsAfter, has_name}
use Rattle.document_typing.specs.Meanings.{Meanings}
use Rattle.document_typing.specs.KeptSelections.{kept}
use Rattle.document_typing.specs.KeptDocument.{text_or_empty, operation_name, fragment_name, kept_anonymous, kept_named, kept_operations, kept_fragments, is_operation}
use Rattle.document_typing.specs.TypingFaults.{TypingFault, typing_fault_at, IsInSelections, SelectionBreaks, DefinitionBreaks, AmbiguousAnonymousOperation}

module _ {P : Type 0} where
  -- whether a definition after these is kept: its root or type condition exists, and no kept one before it has the same name, or also none
  abbrev pub is_kept : Meanings → List (DefinitionTree P) → DefinitionTree P → Bool
  is_kept m before (Operation p o) = is_some (m.root o.operation_type)
      && not (if is_none o.name then is_some (kept_anonymous m before) else has_name operation_name (text_or_empty o.name) (kept_named m before))
  is_kept m before (Fragment p f) = m.has_type f.type_condition.it && not (has_name fragment_name f.name.it (kept_fragments m before))
  is_kept m before _ = false

  -- Q holds for one of these faults
  abbrev pub HasFault : List (TypingFault P) → (TypingFault P → Type 0) → Type 0
  HasFault faults Q = (fault : TypingFault P) × (Contains faults fault × Q fault)

  -- for a set with these selections on the type t: a fault for each selection that is left out, in this set or in a set that is kept inside it
  abbrev pub TellsSet : Meanings → List ℕ → SelectionTrees P → List (TypingFault P) → Type 0
  TellsSet m t ts faults = (u : List ℕ) (s : SelectionTree P) → IsInSelections m u s t ts → kept m s u ≡ [] → HasFault faults (SelectionBreaks m u s)

  -- for a document: a fault for each definition that is not kept, for each operation without a name if there is another operation, and
  -- for each selection that is left out of a set that is kept
  pub record TellsAll (m : Meanings) (ds : List (DefinitionTree P)) (faults : List (TypingFault P)) : Type 0 where
    pub definitions : (before : List (DefinitionTree P)) (d : DefinitionTree P) → StandsAfter ds before d → is_kept m before d ≡ false
        → HasFault faults (DefinitionBreaks m ds before d)
    pub anonymous : (before : List (DefinitionTree P)) (p : P) (o : OperationTree P) → StandsAfter ds before (Operation p o)
        → o.name ≡ None → 1 < length (filter is_operation ds) → Contains faults (typing_fault_at p AmbiguousAnonymousOperation)
    pub operations : (o : _) → Contains (kept_operations m ds) o → TellsSet m o.base o.it.selections faults
    pub fragments : (f : _) → Contains (kept_fragments m ds) f → TellsSet m f.base f.it.selections faults
