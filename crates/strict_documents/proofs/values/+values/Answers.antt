use Rattle.std.proofs.Common.{◌∙◌, ◌<◌, length, refl, ap, sym, arith}
use Rattle.std.specs.Option.{option_map}
use Rattle.std.proofs.lemmas.Result.{on_ok_weaker}
use Rattle.graphql_names.specs.Node.{content, place}
use Rattle.tree_literals.specs.ValueTree.{value_tree, item_trees, entry_trees}
use Rattle.tree_literals.specs.declared.value.Value.{Value}
use Rattle.tree_directives.specs.DirectiveTree.{InputValueTree, input_value_tree, unplaced_input_value}
use Rattle.tree_directives.specs.declared.input_value.InputValueDefinition.{InputValueDefinition}
use Rattle.schema_components.specs.Given.{component_tree, plain_given}
use Rattle.graphql_schema.specs.SchemaOf.{schema_tree}
use Rattle.graphql_schema.specs.declared.schema.Schema.{Schema}
use Rattle.rule_definitions.specs.Judged.{judged}
use Rattle.rule_definitions.specs.Room.{◌⊕◌}
use Rattle.strict_documents.specs.Locations.{field_location, input_field}
use Rattle.strict_documents.specs.Departing.{part_departures, value_departures}
use Rattle.strict_documents.specs.Given.{location_of, part_of, schema_of, variables_in, inside_departures, item_departures, entries_departures}
use Rattle.strict_documents.specs.DepartureViews.{departures_of}
use Rattle.strict_documents.proofs.Found.{nothing_told, found_told, both_told, value_is, items_more, entries_more}
use Rattle.strict_documents.proofs.values.+values.Goals as goal

pub tell_value-returns : goal.tell_value-returns
tell_value-returns t c =
    let s = schema_of c.args.strictness.now in
    let vs = variables_in c.args.strictness.now in
    let l = location_of c.args.location in
    let v = c.args.value.now in
    let old = departures_of c.args.departures.now in
    let own = part_departures vs (part_of c.args.location v) in
    on_ok_weaker c.tell_inside.result
    (λ told. both_told old (departures_of c.tell_part.new.departures) (departures_of c.tell_inside.new.departures) own (inside_departures s vs l (value_tree c.content.result.now)) own
    (inside_departures s vs l (value_tree (content v))) c.in_ok-tell_part.ensures told refl (ap (λ (x : Value). inside_departures s vs l (value_tree x)) c.content.ensures)
    ∙ ap (λ k. old ⊕ k) (sym (value_is s vs l (place v) (value_tree (content v)))))
    c.tell_inside.ensures

pub tell_items-loop-item-preserved : goal.tell_items-loop-item-preserved
tell_items-loop-item-preserved t c =
    let s = schema_of c.args.strictness.now in
    let vs = variables_in c.args.strictness.now in
    let l = location_of c.args.location in
    let xs = c.args.items.now in
    let i = c.loop-item.item-index in
    let h : i < length xs = omega arith in
    items_more s vs l xs i c.item-item.result h c.item-item.is (departures_of c.args.departures.now ⊕ item_departures s vs l (item_trees value_tree xs)) (departures_of c.loop-item.departures) (departures_of c.tell_value.new.departures)
    c.in_ok-tell_value.ensures c.loop-item.invariant

pub tell_entries-loop-entry-preserved : goal.tell_entries-loop-entry-preserved
tell_entries-loop-entry-preserved t c =
    let s = schema_of c.args.strictness.now in
    let vs = variables_in c.args.strictness.now in
    let ty = c.args.ty.now.text in
    let xs = c.args.entries.now in
    let i = c.loop-entry.entry-index in
    let h : i < length xs = omega arith in
    entries_more s vs ty xs i c.entry-item.result h c.entry-item.is (departures_of c.args.departures.now ⊕ entries_departures s vs ty (entry_trees value_tree xs)) (departures_of c.loop-entry.departures) (departures_of c.tell_entry.new.departures)
    c.in_ok-tell_entry.ensures c.loop-entry.invariant

pub tell_entry-returns-in-None : goal.tell_entry-returns-in-None
tell_entry-returns-in-None t c =
    let s = schema_of c.args.strictness.now in
    let vs = variables_in c.args.strictness.now in
    let ty = c.args.ty.now.text in
    let e = c.args.entry.now in
    nothing_told (λ (f : InputValueTree (Unit {0})). value_departures s vs (field_location f) (place e.1) (value_tree (content e.1))) (departures_of c.args.departures.now) (input_field (judged s) ty e.0.text)
    (sym (ap (λ (x : Schema). input_field (judged (schema_tree x)) ty e.0.text) c.schema.ensures) ∙ sym c.input_field.ensures
    ∙ ap (option_map (λ f. plain_given unplaced_input_value (component_tree input_value_tree f.now))) c.in-None.is)

pub tell_entry-returns-in-Some : goal.tell_entry-returns-in-Some
tell_entry-returns-in-Some t c =
    let s = schema_of c.args.strictness.now in
    let vs = variables_in c.args.strictness.now in
    let ty = c.args.ty.now.text in
    let e = c.args.entry.now in
    let old = departures_of c.args.departures.now in
    let f = c.in-Some.field.now in
    on_ok_weaker c.tell_value.result
    (λ told. found_told (λ (f : InputValueTree (Unit {0})). value_departures s vs (field_location f) (place e.1) (value_tree (content e.1))) old (input_field (judged s) ty e.0.text)
    (plain_given unplaced_input_value (component_tree input_value_tree f)) (departures_of c.tell_value.new.departures)
    (sym (ap (λ (x : Schema). input_field (judged (schema_tree x)) ty e.0.text) c.schema.ensures) ∙ sym c.input_field.ensures
    ∙ ap (option_map (λ f. plain_given unplaced_input_value (component_tree input_value_tree f.now))) c.in-Some.is)
    (told ∙ ap (λ l. old ⊕ value_departures s vs l (place e.1) (value_tree (content e.1)))
    (c.of_field-location.ensures ∙ ap (λ (d : InputValueDefinition). field_location (unplaced_input_value (input_value_tree d))) c.content.ensures)))
    c.tell_value.ensures
