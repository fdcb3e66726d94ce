use Rattle.std.proofs.Common.{◌≡◌, drop}
use Rattle.tree_literals.specs.ValueTree.{value_tree, item_trees, entry_trees}
use Rattle.tree_literals.specs.ValueWritable.{items_writable, entries_writable}
use Rattle.tree_literals.proofs.writable.+writable.Given as goal

abbrev pub invariant-items_are_writable-loop-item : goal.invariant-items_are_writable-loop-item
invariant-items_are_writable-loop-item l =
    items_writable l.is_const (item_trees value_tree l.items) ≡ items_writable l.is_const (item_trees value_tree (drop l.item-index l.items))

abbrev pub invariant-entries_are_writable-loop-field : goal.invariant-entries_are_writable-loop-field
invariant-entries_are_writable-loop-field l =
    entries_writable l.is_const (entry_trees value_tree l.fields) ≡ entries_writable l.is_const (entry_trees value_tree (drop l.field-index l.fields))
