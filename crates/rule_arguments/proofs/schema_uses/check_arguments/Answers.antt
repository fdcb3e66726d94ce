use Rattle.std.proofs.Common.{◌<◌, ◌+◌, take, length, ap, subst, ◌∙◌, arith}
use Rattle.std.proofs.lemmas.List.{take_all}
use Rattle.graphql_names.specs.Placed.{Place, node_tree, Placed}
use Rattle.tree_directives.specs.DirectiveTree.{Directives, input_value_tree, InputValueTree, input_value_trees}
use Rattle.tree_directives.specs.declared.directive_location.DirectiveLocation.TheVariants as location
use Rattle.tree_directives.specs.declared.input_value.InputValueDefinition.{InputValueDefinition}
use Rattle.rule_values.specs.in_fault_data.FaultView.{faults_of}
use Rattle.rule_values.specs.in_schema.SchemaOf.{schema_tree}
use Rattle.rule_values.specs.in_fault_data.Adds.{Adds}
use Rattle.rule_arguments.specs.Trees.{directives_of}
use Rattle.rule_arguments.specs.SchemaUses.{UsesAt, ArgumentUses}
use Rattle.rule_values.proofs.in_rule_definitions.Listing.{mapped_more}
use Rattle.rule_values.proofs.in_fault_data.Adding.{gains_none, gains_more}
use Rattle.rule_arguments.proofs.schema_uses.check_arguments.Goals as goal

pub loop-definition-init : goal.loop-definition-init
loop-definition-init c =
    let s = schema_tree c.args.schema.now in
    gains_none {X = Placed Place (InputValueTree Place)} (faults_of c.args.faults.now) (λ k v f. UsesAt s location.ArgumentDefinition v.it.directives f)

pub loop-definition-preserved : goal.loop-definition-preserved
loop-definition-preserved c =
    let s = schema_tree c.args.schema.now in
    let xs = c.args.definitions.now in
    let i = c.loop-definition.definition-index in
    let x = c.definition-item.result in
    let h : i < length xs = omega arith in
    gains_more (faults_of c.args.faults.now) (faults_of c.loop-definition.faults) (faults_of c.check_at.new.faults) (input_value_trees (take i xs)) (input_value_trees (take (i + 1) xs)) (node_tree input_value_tree x)
    (λ k v f. UsesAt s location.ArgumentDefinition v.it.directives f) (mapped_more (node_tree input_value_tree) xs i x h c.definition-item.is) c.loop-definition.invariant
    (subst (λ (l : Directives Place). Adds c.loop-definition.faults c.check_at.new.faults (UsesAt s location.ArgumentDefinition l)) (ap directives_of c.deref.ensures.value ∙ ap (λ (v : InputValueDefinition). directives_of v.directives.0.items) c.content.ensures) c.in_ok-check_at.ensures)

pub returns : goal.returns
returns c = subst (λ l. Adds c.args.faults.now c.loop-definition.faults (ArgumentUses (schema_tree c.args.schema.now) (input_value_trees l)))
    (take_all c.loop-definition.definition-index c.args.definitions.now c.loop-definition-test.false) c.loop-definition.invariant
