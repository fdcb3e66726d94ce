use Rattle.std.proofs.Common.{◌∙◌, ◌<◌, ◌++◌, length, ap, sym, arith}
use Rattle.std.specs.Option.{option_map}
use Rattle.std.proofs.lemmas.Result.{on_ok_weaker}
use Rattle.graphql_names.specs.Node.{content}
use Rattle.graphql_names.specs.Placed.{name_tree}
use Rattle.tree_literals.specs.ValueTree.{value_tree, item_trees, entry_trees}
use Rattle.tree_literals.specs.declared.value.Value.{Value}
use Rattle.tree_directives.specs.DirectiveTree.{InputValueTree, input_value_tree, directives_tree, unplaced_input_value, unplaced_directives}
use Rattle.tree_directives.specs.declared.input_value.InputValueDefinition.{InputValueDefinition}
use Rattle.schema_components.specs.Given.{component_tree, plain_given}
use Rattle.schema_coordinates.specs.Coordinate.{OfAttribute}
use Rattle.graphql_schema.specs.SchemaOf.{schema_tree}
use Rattle.rule_definitions.specs.Judged.{judged}
use Rattle.rule_definitions.specs.Names.{named_in}
use Rattle.rule_definitions.specs.Room.{◌⊕◌}
use Rattle.rule_warnings.specs.Deprecated.{deprecation, input_field}
use Rattle.rule_warnings.specs.Views.{uses_of}
use Rattle.rule_warnings.specs.Told.{use_of, value_uses, item_uses, entry_uses}
use Rattle.rule_warnings.specs.declared.deprecated_use.UseKind.TheVariants as kind
use Rattle.rule_warnings.proofs.Found.{nothing_told, found_told, both_told, items_more, entries_more}
use Rattle.rule_warnings.proofs.values.+values.Goals as goal

pub tell_items-loop-item-preserved : goal.tell_items-loop-item-preserved
tell_items-loop-item-preserved t c =
    let s = judged (schema_tree c.args.schema.now) in
    let ty = c.args.ty.now.text in
    let xs = c.args.items.now in
    let i = c.loop-item.item-index in
    let h : i < length xs = omega arith in
    let before = uses_of c.loop-item.uses in
    items_more s ty xs i c.item-item.result h c.item-item.is (uses_of c.args.uses.now ⊕ item_uses s ty (item_trees value_tree xs)) before (uses_of c.tell_value.new.uses)
    (c.in_ok-tell_value.ensures ∙ ap (λ (v : Value). before ⊕ value_uses s ty (value_tree v)) c.content.ensures) c.loop-item.invariant

pub tell_entries-loop-entry-preserved : goal.tell_entries-loop-entry-preserved
tell_entries-loop-entry-preserved t c =
    let s = judged (schema_tree c.args.schema.now) in
    let ty = c.args.ty.now.text in
    let xs = c.args.entries.now in
    let i = c.loop-entry.entry-index in
    let h : i < length xs = omega arith in
    entries_more s ty xs i c.entry-item.result h c.entry-item.is (uses_of c.args.uses.now ⊕ entry_uses s ty (entry_trees value_tree xs)) (uses_of c.loop-entry.uses) (uses_of c.tell_entry.new.uses)
    c.in_ok-tell_entry.ensures c.loop-entry.invariant

pub tell_entry-returns-in_default : goal.tell_entry-returns-in_default
tell_entry-returns-in_default t c =
    let ty = c.args.ty.now.text in
    let e = c.args.entry.now in
    let s = judged (schema_tree c.args.schema.now) in
    nothing_told (λ (f : InputValueTree (Unit {0})). use_of kind.InputField (OfAttribute ty e.0.text) (deprecation f.directives) (name_tree e.0) ++ value_uses s (named_in f.ty.it) (value_tree (content e.1)))
    (uses_of c.args.uses.now) (input_field s ty e.0.text) (sym c.input_field.ensures ∙ ap (option_map (λ f. plain_given unplaced_input_value (component_tree input_value_tree f.now))) c.in_default.is)

pub tell_entry-returns : goal.tell_entry-returns
tell_entry-returns t c =
    let ty = c.args.ty.now.text in
    let e = c.args.entry.now in
    let s = judged (schema_tree c.args.schema.now) in
    let old = uses_of c.args.uses.now in
    let f = c.in-Some.field.now in
    on_ok_weaker c.tell_value.result
    (λ told. found_told (λ (f : InputValueTree (Unit {0})). use_of kind.InputField (OfAttribute ty e.0.text) (deprecation f.directives) (name_tree e.0) ++ value_uses s (named_in f.ty.it) (value_tree (content e.1)))
    old (input_field s ty e.0.text) (plain_given unplaced_input_value (component_tree input_value_tree f)) _
    (sym c.input_field.ensures ∙ ap (option_map (λ f. plain_given unplaced_input_value (component_tree input_value_tree f.now))) c.in-Some.is)
    (both_told old (uses_of c.tell_use.new.uses) _ _ _ _ _ c.in_ok-tell_use.ensures told
    (ap (λ (d : InputValueDefinition). use_of kind.InputField (OfAttribute ty e.0.text) (deprecation (unplaced_directives (directives_tree d.directives))) (name_tree e.0)) c.content-defined.ensures)
    (λ i. value_uses s ((c.inner_type.ensures ∙ ap (λ (d : InputValueDefinition). named_in (unplaced_input_value (input_value_tree d)).ty.it) c.content-defined.ensures) i) (value_tree (c.content.ensures i)))))
    c.tell_value.ensures
