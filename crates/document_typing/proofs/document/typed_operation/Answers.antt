use Rattle.std.proofs.Common.{◌≡◌, rules, ap, ◌∙◌}
use Rattle.graphql_names.proofs.Copies.{nodes-copies}
use Rattle.graphql_names.specs.Node.{content, place}
use Rattle.tree_operations.specs.OperationTree.{operation_tree, variable_definition_tree}
use Rattle.tree_operations.specs.SelectionTree.{selection_tree, selection_trees}
use Rattle.document_typed_selections.specs.TypedTree.{typed_set_tree}
use Rattle.document_typing.specs.DocumentView.{operation_meant}
use Rattle.document_typing.specs.KeptDocument.{meant_operation_with}
use Rattle.document_typing.specs.KeptSelections.{kept_all}
use Rattle.document_typing.specs.MeaningView.{meanings_under}
use Rattle.document_typing.specs.MeantTree.{meant_of_set, set_on}
use Rattle.document_typing.proofs.document.typed_operation.Goals as goal

pub returns-clause-kept : goal.returns-clause-kept
returns-clause-kept c =
    let t = c.args.root.now.text in
    let p = place c.args.operation.now in
    let tree = operation_tree (content c.args.operation.now) in
    let variables = nodes-copies variable_definition_tree _ _ c.in_ok-name.ensures.1.0 in
    let same : operation_meant c.in_ok-same_location.field-0 ≡ meant_operation_with p tree (meant_of_set (typed_set_tree c.in_ok-set.set)) = search (rules, variables, c.in_ok-same_location.ensures, c.in_ok-name.ensures, c.content-tree.ensures) in
    let items = c.deref.ensures.value ∙ ap (λ o. o.selection_set.items) c.content-tree.ensures in
    same ∙ ap (meant_operation_with p tree) (c.in_ok-set.ensures.kept ∙ ap (λ l. set_on t (kept_all (meanings_under c.args.typing.now.schema) (selection_trees selection_tree l) t)) items)
