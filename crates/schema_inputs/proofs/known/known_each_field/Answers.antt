use Rattle.std.proofs.Common.{ℕ, List, Option, map, ap, subst, ◌∙◌}
use Rattle.std.specs.Borrow.{Bor}
use Rattle.std.proofs.lemmas.Iterator.Consumers.{YieldsList-end, YieldsList-from_rest}
use Rattle.graphql_names.specs.NameValue.{NameValue}
use Rattle.graphql_names.specs.Placed.{Placed, Place}
use Rattle.schema_components.specs.declared.component.Component.{Component}
use Rattle.tree_type_members.specs.declared.field_definition.FieldDefinition.{FieldDefinition}
use Rattle.tree_directives.specs.DirectiveTree.{InputValues, input_value_trees}
use Rattle.tree_type_members.specs.TypeSystemTree.{FieldDefinitionTree, field_definition_tree}
use Rattle.schema_components.specs.Given.{Given, component_tree}
use Rattle.schema_types.specs.TypeView.{name_text}
use Rattle.schema_inputs.specs.Inputs.{AreEach, AreKnownIfMany}
use Rattle.schema_inputs.specs.declared.known.KnownArguments.{KnownArguments}
use Rattle.schema_inputs.proofs.KnownInputs.{each_yielded}
use Rattle.schema_inputs.proofs.known.known_each_field.Goals as goal

pub loop-field-preserved : goal.loop-field-preserved
loop-field-preserved c =
    let g : NameValue × Component FieldDefinition → List ℕ × Given Place (Placed Place (FieldDefinitionTree Place)) = λ e. (name_text e.0, component_tree field_definition_tree e.1) in
    let d : (Bor NameValue × Bor (Component FieldDefinition)) → NameValue × Component FieldDefinition = λ e. (e.0.now, e.1.now) in
    let own = subst (λ (vs : InputValues Place). AreKnownIfMany vs c.in_ok-known_arguments.field-0)
    (ap input_value_trees c.deref.ensures.value ∙ ap (λ (x : FieldDefinition). input_value_trees x.arguments.items) c.content.ensures) c.in_ok-known_arguments.ensures in
    let next = each_yielded (λ (e : List ℕ × Given Place (Placed Place (FieldDefinitionTree Place))) kept. AreKnownIfMany e.1.it.it.arguments kept) g d c.loop-field.yielded c.loop-field.known.items c.push.new.self.items (c.in-Some.field-0-0, c.in-Some.field) c.in_ok-known_arguments.field-0
    c.in_ok-push.ensures.items c.loop-field.invariant.long c.loop-field.invariant.each own in
    record { each = next.0; long = next.1 }

pub returns : goal.returns
returns c =
    let all = YieldsList-end (YieldsList-from_rest c.args.fields.now.entries c.into_iter-field-iterator.ensures.into_iter_gives.0) c.loop-field.yielded c.loop-field.field-iterator c.loop-field.yielded_by c.next.result c.next.new.self c.in-None.is c.next.ensures.steps in
    subst (λ (l : List (NameValue × Component FieldDefinition)). AreEach (λ (e : List ℕ × Given Place (Placed Place (FieldDefinitionTree Place))) kept. AreKnownIfMany e.1.it.it.arguments kept) (map (λ (e : NameValue × Component FieldDefinition). (name_text e.0, component_tree field_definition_tree e.1)) l) c.loop-field.known.items) all.0 c.loop-field.invariant.each
