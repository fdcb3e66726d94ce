use Rattle.std.proofs.Common.{rules}
use Rattle.tree_directives.specs.DirectiveTree.{argument_tree}
use Rattle.tree_directives.proofs.in_literals.in_names.Copies.{nodes-copies}
use Rattle.tree_operations.proofs.SelectionTrees.{selection_trees-copies}
use Rattle.tree_operations.proofs.selection.FieldClone.clone.Goals as goal

pub returns : goal.returns
returns c =
    let arguments = nodes-copies argument_tree _ _ c.in_ok-alias.ensures.2.0 in
    let selections = selection_trees-copies _ _ c.in_ok-alias.ensures.4.0 in
    let name = c.in_ok-alias.ensures.0 in
    search (rules, arguments, selections)
