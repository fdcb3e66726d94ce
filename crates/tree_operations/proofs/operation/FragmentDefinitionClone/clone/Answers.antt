use Rattle.std.proofs.Common.{rules}
use Rattle.tree_operations.proofs.SelectionTrees.{selection_trees-copies}
use Rattle.tree_operations.proofs.operation.FragmentDefinitionClone.clone.Goals as goal

pub returns : goal.returns
returns c =
    let selections = selection_trees-copies _ _ c.in_ok-name.ensures.3.0 in
    search (rules, selections)
