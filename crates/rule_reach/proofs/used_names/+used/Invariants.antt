use Rattle.std.proofs.Common.{◌≡◌, drop}
use Rattle.tree_literals.specs.ValueTree.{value_tree, item_trees, entry_trees}
use Rattle.rule_reach.specs.NotedNames.{noted_names}
use Rattle.rule_reach.specs.UsedNames.{with_items, with_entries}
use Rattle.rule_reach.proofs.used_names.+used.Given as goal

abbrev pub invariant-note_in_items-loop-item : goal.invariant-note_in_items-loop-item
invariant-note_in_items-loop-item l = with_items (noted_names l.fn.names) (item_trees value_tree l.items) ≡ with_items (noted_names l.names) (item_trees value_tree (drop l.item-index l.items))

abbrev pub invariant-note_in_entries-loop-entry : goal.invariant-note_in_entries-loop-entry
invariant-note_in_entries-loop-entry l = with_entries (noted_names l.fn.names) (entry_trees value_tree l.entries) ≡ with_entries (noted_names l.names) (entry_trees value_tree (drop l.entry-index l.entries))
