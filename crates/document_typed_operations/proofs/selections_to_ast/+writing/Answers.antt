use Rattle.std.proofs.Common.{◌≡◌, ◌≤◌, length, ap, ◌∙◌, arith}
use Rattle.std.proofs.lemmas.Grind.{common_steps}
use Rattle.graphql_names.specs.Node.{content}
use Rattle.tree_operations.specs.SelectionTree.{selection_tree, selection_trees}
use Rattle.document_typed_selections.specs.TypedTree.{typed_set_tree}
use Rattle.document_typed_selections.specs.declared.selection.Field.{Field as TypedField}
use Rattle.document_typed_selections.specs.declared.selection.InlineFragment.{InlineFragment as TypedInline}
use Rattle.document_typed_operations.specs.ToAst.{ast_set}
use Rattle.document_typed_operations.proofs.Written.{set-written}
use Rattle.document_typed_operations.proofs.selections_to_ast.+writing.Goals as goal

pub set_to_ast-returns : goal.set_to_ast-returns
set_to_ast-returns t c =
    let value = c.deref-selection-items.ensures.value in
    let end : length c.args.set.now.selections.items ≤ c.loop-selection.selection-index = grind (arith, common_steps, value) in
    set-written c.args.set.now c.loop-selection.written.items c.loop-selection.selection-index end c.loop-selection.invariant

pub field_to_ast-returns : goal.field_to_ast-returns
field_to_ast-returns t c =
    let node = c.args.node.now in
    let set : selection_trees selection_tree c.in_ok-selection_set.selection_set.items ≡ ast_set (typed_set_tree (content node).selection_set) = c.in_ok-selection_set.ensures ∙ ap (λ (f : TypedField). ast_set (typed_set_tree f.selection_set)) c.content.ensures in
    rw (← set) c.field_with.ensures

pub inline_to_ast-returns : goal.inline_to_ast-returns
inline_to_ast-returns t c =
    let node = c.args.node.now in
    let set : selection_trees selection_tree c.in_ok-selection_set.selection_set.items ≡ ast_set (typed_set_tree (content node).selection_set) = c.in_ok-selection_set.ensures ∙ ap (λ (f : TypedInline). ast_set (typed_set_tree f.selection_set)) c.content.ensures in
    rw (← set) c.inline_with.ensures
