use Rattle.std.proofs.Common.{◌≡◌, ◌++◌, drop}
use Rattle.tree_operations.specs.SelectionTree.{selection_tree, selection_trees}
use Rattle.document_typing.specs.KeptSelections.{kept_all}
use Rattle.document_typing.specs.SetFaults.{set_faults}
use Rattle.document_typing.specs.FaultView.{faults_of}
use Rattle.document_typing.specs.MeaningView.{schema_under, meanings_under, meant_selections, AreKeptDefined}
use Rattle.document_typing.proofs.selections.+typing.Given as goal

abbrev pub invariant-type_set_on-loop-selection : goal.invariant-type_set_on-loop-selection
invariant-type_set_on-loop-selection l =
    (meant_selections l.kept ++ kept_all (meanings_under l.typing.schema) (selection_trees selection_tree (drop l.selection-index l.selections)) l.type_name.text
    ≡ kept_all (meanings_under l.typing.schema) (selection_trees selection_tree l.selections) l.type_name.text)
    × (faults_of l.faults ++ set_faults (meanings_under l.typing.schema) (selection_trees selection_tree (drop l.selection-index l.selections)) l.type_name.text
    ≡ faults_of l.fn.faults ++ set_faults (meanings_under l.typing.schema) (selection_trees selection_tree l.selections) l.type_name.text)
    × AreKeptDefined (schema_under l.typing.schema) l.type_name.text l.kept
