use Rattle.std.proofs.Common.{ℕ, List, map, ap, subst, ◌∙◌}
use Rattle.std.specs.Borrow.{Bor}
use Rattle.std.proofs.lemmas.Iterator.Consumers.{YieldsList-end, YieldsList-from_rest}
use Rattle.graphql_names.specs.NameValue.{NameValue}
use Rattle.graphql_names.specs.Placed.{Placed, Place}
use Rattle.schema_components.specs.declared.component.Component.{Component}
use Rattle.tree_type_members.specs.declared.enum_value.EnumValueDefinition.{EnumValueDefinition}
use Rattle.tree_type_members.specs.TypeSystemTree.{EnumValueTree, enum_value_tree}
use Rattle.schema_components.specs.Given.{Given, component_tree}
use Rattle.rule_values.specs.in_schema.in_schema_types.TypeView.{name_text}
use Rattle.rule_values.specs.in_schema.SchemaOf.{schema_tree}
use Rattle.rule_values.specs.in_fault_data.FaultView.{faults_of}
use Rattle.rule_values.specs.in_fault_data.Adds.{Adds}
use Rattle.tree_directives.specs.declared.directive_location.DirectiveLocation.TheVariants as location
use Rattle.tree_directives.specs.DirectiveTree.{Directives}
use Rattle.rule_arguments.specs.Trees.{directives_of}
use Rattle.rule_arguments.specs.SchemaUses.{UsesAt, ValuesUses}
use Rattle.rule_values.proofs.in_fault_data.Adding.{gains_none, gains_more}
use Rattle.rule_arguments.proofs.SchemaSteps.{pairs_more}
use Rattle.rule_arguments.proofs.schema_uses.check_values.Goals as goal

pub loop-value-init : goal.loop-value-init
loop-value-init c =
    let s = schema_tree c.args.schema.now in
    gains_none {X = List ℕ × Given Place (Placed Place (EnumValueTree Place))} (faults_of c.args.faults.now) (λ k e f. UsesAt s location.EnumValue e.1.it.it.directives f)

pub loop-value-preserved : goal.loop-value-preserved
loop-value-preserved c =
    let s = schema_tree c.args.schema.now in
    let g : NameValue × Component EnumValueDefinition → List ℕ × Given Place (Placed Place (EnumValueTree Place)) = λ e. (name_text e.0, component_tree enum_value_tree e.1) in
    let d : (Bor NameValue × Bor (Component EnumValueDefinition)) → NameValue × Component EnumValueDefinition = λ e. (e.0.now, e.1.now) in
    gains_more (faults_of c.args.faults.now) (faults_of c.loop-value.faults) (faults_of c.check_at.new.faults) (map g (map d c.loop-value.yielded)) _ _
    (λ k e f. UsesAt s location.EnumValue e.1.it.it.directives f) (pairs_more g d c.loop-value.yielded _) c.loop-value.invariant
    (subst (λ (l : Directives Place). Adds c.loop-value.faults c.check_at.new.faults (UsesAt s location.EnumValue l)) (ap directives_of c.deref.ensures.value ∙ ap (λ (x : EnumValueDefinition). directives_of x.directives.0.items) c.content.ensures) c.in_ok-check_at.ensures)

pub returns : goal.returns
returns c =
    let all = YieldsList-end (YieldsList-from_rest c.args.values.now.entries c.into_iter-value-iterator.ensures.into_iter_gives.0) c.loop-value.yielded c.loop-value.value-iterator c.loop-value.yielded_by c.next.result c.next.new.self c.in-None.is c.next.ensures.steps in
    subst (λ (l : List (NameValue × Component EnumValueDefinition)). Adds c.args.faults.now c.loop-value.faults (ValuesUses (schema_tree c.args.schema.now) (map (λ e. (name_text e.0, component_tree enum_value_tree e.1)) l))) all.0 c.loop-value.invariant
