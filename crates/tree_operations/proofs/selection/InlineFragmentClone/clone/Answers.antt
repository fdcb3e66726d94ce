use Rattle.std.proofs.Common.{rules}
use Rattle.tree_operations.proofs.SelectionTrees.{selection_trees-copies}
use Rattle.tree_operations.proofs.selection.InlineFragmentClone.clone.Goals as goal

pub returns : goal.returns
returns c =
    let selections = selection_trees-copies _ _ c.in_ok-type_condition.ensures.2.0 in
    let condition = c.in_ok-type_condition.ensures.0 in
    search (rules, selections)
