use Rattle.std.proofs.Common.{◌≡◌, ◌+◌, ◌*◌, drop}
use Rattle.tree_literals.specs.ValueTree.{value_tree, item_trees, entry_trees}
use Rattle.rule_definitions.specs.Room.{◌⊕◌}
use Rattle.strict_documents.specs.Given.{location_of, schema_of, variables_in, item_departures, entries_departures}
use Rattle.strict_documents.specs.DepartureViews.{departures_of}
use Rattle.strict_documents.proofs.values.+values.Given as goal

-- one item or entry may be as deep as all of them: who is given many ranks above who is given one

abbrev pub decreases-tell_value : goal.decreases-tell_value
decreases-tell_value l = 4 * goal.size-tell_value l + 1

abbrev pub decreases-tell_inside : goal.decreases-tell_inside
decreases-tell_inside l = 4 * goal.size-tell_inside l

abbrev pub decreases-tell_items : goal.decreases-tell_items
decreases-tell_items l = 4 * goal.size-tell_items l + 2

abbrev pub decreases-tell_entries : goal.decreases-tell_entries
decreases-tell_entries l = 4 * goal.size-tell_entries l + 3

abbrev pub decreases-tell_entry : goal.decreases-tell_entry
decreases-tell_entry l = 4 * goal.size-tell_entry l + 2

abbrev pub invariant-tell_items-loop-item : goal.invariant-tell_items-loop-item
invariant-tell_items-loop-item l =
    departures_of l.fn.departures ⊕ item_departures (schema_of l.strictness) (variables_in l.strictness) (location_of l.location) (item_trees value_tree l.items)
    ≡ departures_of l.departures ⊕ item_departures (schema_of l.strictness) (variables_in l.strictness) (location_of l.location) (item_trees value_tree (drop l.item-index l.items))

abbrev pub invariant-tell_entries-loop-entry : goal.invariant-tell_entries-loop-entry
invariant-tell_entries-loop-entry l =
    departures_of l.fn.departures ⊕ entries_departures (schema_of l.strictness) (variables_in l.strictness) l.ty.text (entry_trees value_tree l.entries)
    ≡ departures_of l.departures ⊕ entries_departures (schema_of l.strictness) (variables_in l.strictness) l.ty.text (entry_trees value_tree (drop l.entry-index l.entries))
