use Rattle.std.proofs.Common.{not, ◌<◌, ◌+◌, [], map, take, drop, length, refl, sym, ap, ◌∙◌, arith}
use Rattle.graphql_names.specs.Placed.{name_tree}
use Rattle.tree_literals.specs.TypeTree.{type_tree}
use Rattle.tree_literals.specs.ValueTree.{value_tree, item_trees, entry_trees}
use Rattle.graphql_schema.specs.SchemaOf.{schema_tree}
use Rattle.fault_data.specs.FaultView.{faults_of}
use Rattle.fault_data.specs.Room.{◌⊕◌}
use Rattle.graphql_schema.specs.in_schema_types.TypeView.{extended_type}
use Rattle.rule_values.specs.Wanting.{variables_of}
use Rattle.rule_values.specs.ValueFaults.{item_faults, entry_faults}
use Rattle.rule_values.proofs.Looping.{items_more}
use Rattle.schema_inputs.proofs.Noted.{noted_next}
use Rattle.rule_values.proofs.NotedKeys.{entry_again, entry_first}
use Rattle.rule_values.proofs.types.+types.Goals as goal
use Rattle.rule_values.proofs.types.+types.Goals.{tell_entries-then-is_none+in_ok-tell_entry, tell_entries-else-is_none}

pub tell_items-loop-item-preserved : goal.tell_items-loop-item-preserved
tell_items-loop-item-preserved t c =
    let s = schema_tree c.args.judging.now.schema.now in
    let vs = variables_of c.args.judging.now.variables.now in
    let ty = type_tree c.args.wanted.now.ty.now in
    let q = c.args.wanted.now.location in
    let h : c.loop-item.item-index < length c.args.items.now = omega arith in
    items_more s vs ty q c.args.items.now c.loop-item.item-index c.item-item.result h c.item-item.is
    (faults_of c.args.faults.now ⊕ item_faults s vs ty q (item_trees value_tree c.args.items.now)) (faults_of c.loop-item.faults) (faults_of c.tell_type.new.faults)
    c.in_ok-tell_type.ensures c.loop-item.invariant

pub tell_entries-loop-entry-preserved : goal.tell_entries-loop-entry-preserved
tell_entries-loop-entry-preserved t c =
    let s = schema_tree c.args.judging.now.schema.now in
    let vs = variables_of c.args.judging.now.variables.now in
    let ty = extended_type c.args.found.now in
    let xs = c.args.entries.now in
    let i = c.loop-entry.entry-index in
    let x = c.entry-item.result in
    let h : i < length xs = omega arith in
    let all = faults_of c.args.faults.now ⊕ entry_faults s vs ty [] (entry_trees value_tree xs) in
    let before = faults_of c.loop-entry.faults in
    let noted = c.loop-entry.invariant.noted in
    let found = c.in_ok-first.ensures.there ∙ noted x.0 in
    record {
      told = elim c.if-is_none.branch [
        | tell_entries-then-is_none+in_ok-tell_entry w ↦
            entry_first s vs ty xs i x h c.entry-item.is all before (faults_of c.if-is_none.faults) c.loop-entry.invariant.told c.in_ok-first.first found (c.is_none.ensures ∙ ap not w.if-is_none.true)
            (ap faults_of w.faults-is ∙ w.in_ok-tell_entry.ensures)
        | tell_entries-else-is_none w ↦
            entry_again s vs ty xs i x h c.entry-item.is all before before c.loop-entry.invariant.told c.in_ok-first.first found (c.is_none.ensures ∙ ap not w.if-is_none.false)
            ∙ ap (λ l. faults_of l ⊕ entry_faults s vs ty (map (λ e. e.0.text) (take (i + 1) xs)) (entry_trees value_tree (drop (i + 1) xs))) (sym w.faults-is)
      ];
      noted = noted_next (λ k. k.it) (λ e. name_tree e.0) (λ j k. k.place) c.loop-entry.keys c.note_first.new.firsts x.0 c.location.result xs i x h c.entry-item.is refl c.location.ensures.value
          c.in_ok-first.ensures.noted noted;
    }
