use Rattle.std.proofs.Common.{ℕ, List, map, ap, subst, ◌∙◌}
use Rattle.std.specs.Borrow.{Bor}
use Rattle.std.proofs.lemmas.Iterator.Consumers.{YieldsList-end, YieldsList-from_rest}
use Rattle.graphql_names.specs.NameValue.{NameValue}
use Rattle.graphql_names.specs.Placed.{Placed, Place}
use Rattle.schema_components.specs.declared.component.Component.{Component}
use Rattle.tree_directives.specs.declared.input_value.InputValueDefinition.{InputValueDefinition}
use Rattle.schema_components.specs.Given.{Given, component_tree}
use Rattle.rule_values.specs.in_schema.in_schema_types.TypeView.{name_text}
use Rattle.rule_values.specs.in_schema.SchemaOf.{schema_tree}
use Rattle.rule_values.specs.in_fault_data.FaultView.{faults_of}
use Rattle.rule_values.specs.in_fault_data.Adds.{Adds}
use Rattle.tree_directives.specs.declared.directive_location.DirectiveLocation.TheVariants as location
use Rattle.tree_directives.specs.DirectiveTree.{Directives, InputValueTree, input_value_tree}
use Rattle.rule_arguments.specs.Trees.{directives_of}
use Rattle.rule_arguments.specs.SchemaUses.{UsesAt, InputsUses}
use Rattle.rule_values.proofs.in_fault_data.Adding.{gains_none, gains_more}
use Rattle.rule_arguments.proofs.SchemaSteps.{pairs_more}
use Rattle.rule_arguments.proofs.schema_uses.check_inputs.Goals as goal

pub loop-field-init : goal.loop-field-init
loop-field-init c =
    let s = schema_tree c.args.schema.now in
    gains_none {X = List ℕ × Given Place (Placed Place (InputValueTree Place))} (faults_of c.args.faults.now) (λ k e f. UsesAt s location.InputFieldDefinition e.1.it.it.directives f)

pub loop-field-preserved : goal.loop-field-preserved
loop-field-preserved c =
    let s = schema_tree c.args.schema.now in
    let g : NameValue × Component InputValueDefinition → List ℕ × Given Place (Placed Place (InputValueTree Place)) = λ e. (name_text e.0, component_tree input_value_tree e.1) in
    let d : (Bor NameValue × Bor (Component InputValueDefinition)) → NameValue × Component InputValueDefinition = λ e. (e.0.now, e.1.now) in
    gains_more (faults_of c.args.faults.now) (faults_of c.loop-field.faults) (faults_of c.check_at.new.faults) (map g (map d c.loop-field.yielded)) _ _
    (λ k e f. UsesAt s location.InputFieldDefinition e.1.it.it.directives f) (pairs_more g d c.loop-field.yielded _) c.loop-field.invariant
    (subst (λ (l : Directives Place). Adds c.loop-field.faults c.check_at.new.faults (UsesAt s location.InputFieldDefinition l)) (ap directives_of c.deref.ensures.value ∙ ap (λ (x : InputValueDefinition). directives_of x.directives.0.items) c.content.ensures) c.in_ok-check_at.ensures)

pub returns : goal.returns
returns c =
    let all = YieldsList-end (YieldsList-from_rest c.args.fields.now.entries c.into_iter-field-iterator.ensures.into_iter_gives.0) c.loop-field.yielded c.loop-field.field-iterator c.loop-field.yielded_by c.next.result c.next.new.self c.in-None.is c.next.ensures.steps in
    subst (λ (l : List (NameValue × Component InputValueDefinition)). Adds c.args.faults.now c.loop-field.faults (InputsUses (schema_tree c.args.schema.now) (map (λ e. (name_text e.0, component_tree input_value_tree e.1)) l))) all.0 c.loop-field.invariant
