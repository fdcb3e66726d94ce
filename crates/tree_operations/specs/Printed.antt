-- Private: leads to `operation_text` and `fragment_text`. Partial texts of printers of selections.
use Rattle.std.specs.Prelude.{ℕ, List}
use Rattle.tree_directives.specs.in_literals.LineLayout.{Prefix, member_text, members_text, set_text}
use Rattle.tree_operations.specs.SelectionTree.{selection_tree, selection_trees}
use Rattle.tree_operations.specs.OperationLayout.{selection_text, selection_texts}
use Rattle.tree_operations.specs.declared.selection.Selection.{Selection}

-- a selection on a line of its own, and all of a list
abbrev pub selection_member_text : Prefix → ℕ → Selection → List ℕ
selection_member_text prefix level t = member_text prefix level (selection_text prefix (selection_tree t))

abbrev pub selection_members_text : Prefix → ℕ → List Selection → List ℕ
selection_members_text prefix level ts = members_text prefix level (selection_texts prefix (selection_trees selection_tree ts))

-- { selections } with a space before it
abbrev pub selection_set_text : Prefix → ℕ → List Selection → List ℕ
selection_set_text prefix level ts = set_text prefix level (selection_texts prefix (selection_trees selection_tree ts))
