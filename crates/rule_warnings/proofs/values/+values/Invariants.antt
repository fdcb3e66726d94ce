use Rattle.std.proofs.Common.{◌≡◌, ◌+◌, ◌*◌, drop}
use Rattle.tree_literals.specs.ValueTree.{value_tree, item_trees, entry_trees}
use Rattle.graphql_schema.specs.SchemaOf.{schema_tree}
use Rattle.rule_definitions.specs.Judged.{judged}
use Rattle.rule_definitions.specs.Room.{◌⊕◌}
use Rattle.rule_warnings.specs.Views.{uses_of}
use Rattle.rule_warnings.specs.Told.{item_uses, entry_uses}
use Rattle.rule_warnings.proofs.values.+values.Given as goal

-- one item or entry may be as deep as all of them: who is given many ranks above who is given one

abbrev pub decreases-tell_value : goal.decreases-tell_value
decreases-tell_value l = 4 * goal.size-tell_value l

abbrev pub decreases-tell_items : goal.decreases-tell_items
decreases-tell_items l = 4 * goal.size-tell_items l + 1

abbrev pub decreases-tell_entries : goal.decreases-tell_entries
decreases-tell_entries l = 4 * goal.size-tell_entries l + 2

abbrev pub decreases-tell_entry : goal.decreases-tell_entry
decreases-tell_entry l = 4 * goal.size-tell_entry l + 1

abbrev pub invariant-tell_items-loop-item : goal.invariant-tell_items-loop-item
invariant-tell_items-loop-item l =
    uses_of l.fn.uses ⊕ item_uses (judged (schema_tree l.schema)) l.ty.text (item_trees value_tree l.items)
    ≡ uses_of l.uses ⊕ item_uses (judged (schema_tree l.schema)) l.ty.text (item_trees value_tree (drop l.item-index l.items))

abbrev pub invariant-tell_entries-loop-entry : goal.invariant-tell_entries-loop-entry
invariant-tell_entries-loop-entry l =
    uses_of l.fn.uses ⊕ entry_uses (judged (schema_tree l.schema)) l.ty.text (entry_trees value_tree l.entries)
    ≡ uses_of l.uses ⊕ entry_uses (judged (schema_tree l.schema)) l.ty.text (entry_trees value_tree (drop l.entry-index l.entries))
