use Rattle.std.proofs.Common.{◌≡◌, true, sym, ap, ◌∙◌}
use Rattle.std.specs.Option.{option_map_or}
use Rattle.std.proofs.lemmas.Result.{on_ok_weaker}
use Rattle.graphql_names.specs.NameValue.{NameValue}
use Rattle.tree_literals.specs.ValueTree.{value_tree, entry_trees}
use Rattle.tree_directives.specs.DirectiveTree.{input_value_tree}
use Rattle.schema_components.specs.Given.{component_tree}
use Rattle.fault_data.specs.FaultView.{faults_of}
use Rattle.fault_data.specs.Room.{◌⊕◌}
use Rattle.rule_values.specs.ValueFaults.{is_missing_entry, required_field}
use Rattle.rule_values.specs.Telling.{required_among_entries}
use Rattle.rule_values.specs.Wanting.{is_not_provided, required_among}
use Rattle.fault_data.proofs.Room.{no_room}
use Rattle.rule_values.proofs.NotedKeys.{nulls_are}
use Rattle.rule_values.proofs.Looping.{each_first_all}
use Rattle.rule_values.proofs.objects.tell_required.Goals as goal

pub returns-then-is_full : goal.returns-then-is_full
returns-then-is_full c = sym (no_room (faults_of c.args.faults.now) (required_among_entries c.args.name.now c.args.location c.args.entries.now c.args.fields.now.all.now) (c.is_full.ensures.0 c.if-is_full.true))

pub returns : goal.returns
returns c =
    let es = entry_trees value_tree c.args.entries.now in
    let n = c.args.name.now.text in
    let p = c.args.location in
    let told = faults_of c.args.faults.now in
    let missing : (k : NameValue) → is_not_provided c.in_ok-nulls.nulls k ≡ is_missing_entry k.text es = λ k. ap (λ o. option_map_or (λ is_null. is_null) o true) (c.in_ok-nulls.ensures k) ∙ nulls_are c.args.entries.now k.text in
    on_ok_weaker c.tell_required_of.result
    (λ e. e ∙ (λ i. told ⊕ required_among (λ k. missing k i) n p c.args.fields.now.all.now.entries)
    ∙ ap (λ l. told ⊕ l) (sym (each_first_all (required_field n p es) (component_tree input_value_tree) c.args.fields.now.all.now.entries c.len.ensures.unique)))
    c.tell_required_of.ensures
