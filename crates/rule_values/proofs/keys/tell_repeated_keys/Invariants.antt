use Rattle.std.proofs.Common.{◌≡◌, [], take, drop}
use Rattle.tree_literals.specs.ValueTree.{value_tree, entry_trees}
use Rattle.fault_data.specs.FaultView.{faults_of}
use Rattle.fault_data.specs.Room.{◌⊕◌}
use Rattle.rule_values.proofs.EntryKeys.{keys_of_entries}
use Rattle.rule_values.specs.KeyFaults.{repeated_keys}
use Rattle.schema_inputs.specs.Firsts.{AreFirsts}
use Rattle.rule_values.proofs.keys.tell_repeated_keys.Given as goal

abbrev pub invariant-loop-entry : goal.invariant-loop-entry
invariant-loop-entry l = record {
  told : faults_of l.fn.faults ⊕ repeated_keys [] (entry_trees value_tree l.entries)
      ≡ faults_of l.faults ⊕ repeated_keys (keys_of_entries (take l.entry-index l.entries)) (entry_trees value_tree (drop l.entry-index l.entries));
  noted : AreFirsts (λ k. k.it) (λ i k. k.place) l.places (keys_of_entries (take l.entry-index l.entries));
}
