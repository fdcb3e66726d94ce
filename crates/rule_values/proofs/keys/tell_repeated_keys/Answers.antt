use Rattle.std.proofs.Common.{◌<◌, [], length, refl, ◌∙◌, arith}
use Rattle.graphql_names.specs.Placed.{name_tree}
use Rattle.tree_literals.specs.ValueTree.{value_tree, entry_trees}
use Rattle.fault_data.specs.FaultView.{faults_of}
use Rattle.fault_data.specs.Room.{◌⊕◌}
use Rattle.rule_values.specs.KeyFaults.{repeated_keys}
use Rattle.schema_inputs.proofs.Noted.{noted_next}
use Rattle.rule_values.proofs.NotedKeys.{keys_more}
use Rattle.rule_values.proofs.keys.tell_repeated_keys.Goals as goal

pub loop-entry-preserved : goal.loop-entry-preserved
loop-entry-preserved c =
    let xs = c.args.entries.now in
    let i = c.loop-entry.entry-index in
    let x = c.entry-item.result in
    let h : i < length xs = omega arith in
    let noted = c.loop-entry.invariant.noted in
    record {
      told = keys_more xs i x h c.entry-item.is (faults_of c.args.faults.now ⊕ repeated_keys [] (entry_trees value_tree xs)) (faults_of c.loop-entry.faults) (faults_of c.unique_input_value.new.faults)
          c.in_ok-first.first (c.in_ok-first.ensures.there ∙ noted x.0) c.in_ok-unique_input_value.ensures c.loop-entry.invariant.told;
      noted = noted_next (λ k. k.it) (λ e. name_tree e.0) (λ j k. k.place) c.loop-entry.places c.note_first.new.firsts x.0 c.location.result xs i x h c.entry-item.is refl c.location.ensures.value
          c.in_ok-first.ensures.noted noted;
    }
