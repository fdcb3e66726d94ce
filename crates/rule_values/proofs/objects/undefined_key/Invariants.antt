use Rattle.std.proofs.Common.{◌≡◌, drop}
use Rattle.tree_literals.specs.ValueTree.{value_tree, entry_trees}
use Rattle.graphql_schema.specs.in_schema_types.TypeView.{extended_type}
use Rattle.fault_data.specs.FaultView.{faults_of}
use Rattle.fault_data.specs.Room.{◌⊕◌}
use Rattle.rule_values.specs.ValueFaults.{undefined_key}
use Rattle.rule_values.proofs.objects.undefined_key.Given as goal

abbrev pub invariant-loop-entry : goal.invariant-loop-entry
invariant-loop-entry l =
    faults_of l.fn.faults ⊕ undefined_key l.name.text (extended_type l.found) (entry_trees value_tree l.entries)
    ≡ faults_of l.faults ⊕ undefined_key l.name.text (extended_type l.found) (entry_trees value_tree (drop l.entry-index l.entries))
