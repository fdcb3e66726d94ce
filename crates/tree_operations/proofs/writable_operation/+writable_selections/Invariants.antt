use Rattle.std.proofs.Common.{◌≡◌, drop}
use Rattle.tree_operations.specs.SelectionTree.{selection_tree, selection_trees}
use Rattle.tree_operations.specs.OperationWritable.{selections_writable}
use Rattle.tree_operations.proofs.writable_operation.+writable_selections.Given as goal

abbrev pub invariant-selections_are_writable-loop-selection : goal.invariant-selections_are_writable-loop-selection
invariant-selections_are_writable-loop-selection l =
    selections_writable (selection_trees selection_tree l.selections) ≡ selections_writable (selection_trees selection_tree (drop l.selection-index l.selections))
