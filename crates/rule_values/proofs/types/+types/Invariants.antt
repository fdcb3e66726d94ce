use Rattle.std.proofs.Common.{◌≡◌, ◌+◌, ◌*◌, [], map, take, drop}
use Rattle.tree_literals.specs.TypeTree.{type_tree}
use Rattle.tree_literals.specs.ValueTree.{value_tree, item_trees, entry_trees}
use Rattle.graphql_schema.specs.SchemaOf.{schema_tree}
use Rattle.graphql_schema.specs.in_schema_types.TypeView.{extended_type}
use Rattle.fault_data.specs.FaultView.{faults_of}
use Rattle.fault_data.specs.Room.{◌⊕◌}
use Rattle.rule_values.specs.Wanting.{variables_of}
use Rattle.rule_values.proofs.EntryKeys.{keys_of_entries}
use Rattle.schema_inputs.specs.Firsts.{AreFirsts}
use Rattle.rule_values.specs.ValueFaults.{item_faults, entry_faults}
use Rattle.rule_values.proofs.types.+types.Given as goal

-- one item or entry may be as deep as all of them: who is given many ranks above who is given one

abbrev pub decreases-tell_type : goal.decreases-tell_type
decreases-tell_type l = 4 * goal.size-tell_type l + 1

abbrev pub decreases-tell_inside : goal.decreases-tell_inside
decreases-tell_inside l = 4 * goal.size-tell_inside l

abbrev pub decreases-tell_items : goal.decreases-tell_items
decreases-tell_items l = 4 * goal.size-tell_items l + 2

abbrev pub decreases-tell_entries : goal.decreases-tell_entries
decreases-tell_entries l = 4 * goal.size-tell_entries l + 3

abbrev pub decreases-tell_entry : goal.decreases-tell_entry
decreases-tell_entry l = 4 * goal.size-tell_entry l + 2

abbrev pub invariant-tell_items-loop-item : goal.invariant-tell_items-loop-item
invariant-tell_items-loop-item l =
    faults_of l.fn.faults ⊕ item_faults (schema_tree l.judging.schema.now) (variables_of l.judging.variables.now) (type_tree l.wanted.ty.now) l.wanted.location (item_trees value_tree l.items)
    ≡ faults_of l.faults ⊕ item_faults (schema_tree l.judging.schema.now) (variables_of l.judging.variables.now) (type_tree l.wanted.ty.now) l.wanted.location (item_trees value_tree (drop l.item-index l.items))

abbrev pub invariant-tell_entries-loop-entry : goal.invariant-tell_entries-loop-entry
invariant-tell_entries-loop-entry l = record {
  told : faults_of l.fn.faults ⊕ entry_faults (schema_tree l.judging.schema.now) (variables_of l.judging.variables.now) (extended_type l.found) [] (entry_trees value_tree l.entries)
      ≡ faults_of l.faults ⊕ entry_faults (schema_tree l.judging.schema.now) (variables_of l.judging.variables.now) (extended_type l.found) (map (λ e. e.0.text) (take l.entry-index l.entries)) (entry_trees value_tree (drop l.entry-index l.entries));
  noted : AreFirsts (λ k. k.it) (λ i k. k.place) l.keys (keys_of_entries (take l.entry-index l.entries));
}
