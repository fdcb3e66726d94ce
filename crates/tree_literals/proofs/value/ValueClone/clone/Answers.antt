use Rattle.std.proofs.Common.{ap, sym, ◌∙◌}
use Rattle.tree_literals.specs.ValueTree.{value_tree, ListTree, ObjectTree}
use Rattle.tree_literals.proofs.Trees.{value_tree_list, value_tree_object, item_trees-copies, entry_trees-copies}
use Rattle.tree_literals.proofs.value.ValueClone.clone.Goals as goal

pub returns-in_ok-clone-in-List : goal.returns-in_ok-clone-in-List
returns-in_ok-clone-in-List c = record { cases = value_tree_list _ ∙ ap ListTree (item_trees-copies _ _ c.in_ok-clone-in-List.ensures.cases.0) ∙ sym (value_tree_list _) ∙ ap value_tree (sym c.in-List.is) }

pub returns-in_ok-clone-in-Object : goal.returns-in_ok-clone-in-Object
returns-in_ok-clone-in-Object c = record { cases = value_tree_object _ ∙ ap ObjectTree (entry_trees-copies _ _ c.in_ok-clone-in-Object.ensures.cases.0) ∙ sym (value_tree_object _) ∙ ap value_tree (sym c.in-Object.is) }
