use Rattle.std.proofs.Common.{◌≡◌, drop}
use Rattle.tree_literals.specs.ValueTree.{value_tree, item_trees, entry_trees}
use Rattle.fault_data.specs.FaultView.{faults_of}
use Rattle.fault_data.specs.Room.{◌⊕◌}
use Rattle.rule_values.specs.KeyFaults.{key_faults_items, key_faults_entries}
use Rattle.rule_values.proofs.keys.+keys.Given as goal

abbrev pub invariant-tell_keys_of_items-loop-item : goal.invariant-tell_keys_of_items-loop-item
invariant-tell_keys_of_items-loop-item l =
    faults_of l.fn.faults ⊕ key_faults_items (item_trees value_tree l.items)
    ≡ faults_of l.faults ⊕ key_faults_items (item_trees value_tree (drop l.item-index l.items))

abbrev pub invariant-tell_keys_of_entries-loop-entry : goal.invariant-tell_keys_of_entries-loop-entry
invariant-tell_keys_of_entries-loop-entry l =
    faults_of l.fn.faults ⊕ key_faults_entries (entry_trees value_tree l.entries)
    ≡ faults_of l.faults ⊕ key_faults_entries (entry_trees value_tree (drop l.entry-index l.entries))
