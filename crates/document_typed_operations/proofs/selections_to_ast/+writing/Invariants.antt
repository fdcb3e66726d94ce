use Rattle.std.proofs.Common.{◌≡◌, map, take}
use Rattle.tree_operations.specs.SelectionTree.{selection_tree}
use Rattle.document_typed_selections.specs.TypedTree.{typed_selection_tree}
use Rattle.document_typed_operations.specs.ToAst.{ast_selection}
use Rattle.document_typed_operations.proofs.selections_to_ast.+writing.Given as goal

abbrev pub invariant-set_to_ast-loop-selection : goal.invariant-set_to_ast-loop-selection
invariant-set_to_ast-loop-selection l = map selection_tree l.written.items ≡ map (λ s. ast_selection (typed_selection_tree s)) (take l.selection-index l.set.selections.items)
