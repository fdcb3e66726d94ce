use Rattle.std.proofs.Common.{rules}
use Rattle.tree_operations.specs.OperationTree.{variable_definition_tree}
use Rattle.tree_directives.proofs.in_literals.in_names.Copies.{nodes-copies}
use Rattle.tree_operations.proofs.SelectionTrees.{selection_trees-copies}
use Rattle.tree_operations.proofs.operation.OperationDefinitionClone.clone.Goals as goal

pub returns : goal.returns
returns c =
    let variables = nodes-copies variable_definition_tree _ _ c.in_ok-name.ensures.1.0 in
    let selections = selection_trees-copies _ _ c.in_ok-name.ensures.3.0 in
    let name = c.in_ok-name.ensures.0 in
    search (rules, variables, selections)
