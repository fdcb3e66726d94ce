use Rattle.std.proofs.Common.{sym, ap, subst, ◌∙◌}
use Rattle.std.proofs.lemmas.Result.{on_ok_weaker}
use Rattle.graphql_names.specs.Placed.{Place, node_tree}
use Rattle.tree_directives.specs.DirectiveTree.{Directives, directive_definition_tree}
use Rattle.tree_directives.specs.declared.directive.DirectiveDefinition.{DirectiveDefinition}
use Rattle.tree_directives.specs.declared.directive_location.DirectiveLocation.TheVariants as location
use Rattle.rule_values.specs.in_schema.SchemaOf.{schema_tree}
use Rattle.rule_values.specs.in_fault_data.FaultView.{faults_of}
use Rattle.rule_values.specs.in_fault_data.Adds.{Adds}
use Rattle.rule_arguments.specs.Trees.{directives_of}
use Rattle.rule_arguments.specs.SchemaUses.{UsesAt, OwnDefinitionUses}
use Rattle.rule_values.proofs.in_fault_data.Adding.{gains_same, gains_nothing}
use Rattle.rule_arguments.proofs.SchemaSteps.{definition_judged, definition_unjudged}
use Rattle.rule_arguments.proofs.schema_uses.check_own_definition.Goals as goal

pub returns-then-is_built_in : goal.returns-then-is_built_in
returns-then-is_built_in c =
    let s = schema_tree c.args.schema.now in
    let d = node_tree directive_definition_tree c.args.definition.now in
    gains_nothing (faults_of c.args.faults.now) (OwnDefinitionUses s d) (definition_unjudged s d (sym c.is_built_in.ensures ∙ c.if-is_built_in.true))

pub returns : goal.returns
returns c =
    let s = schema_tree c.args.schema.now in
    let d = node_tree directive_definition_tree c.args.definition.now in
    on_ok_weaker c.check_at.result
    (λ h. gains_same (faults_of c.args.faults.now) (faults_of c.check_at.new.faults) (definition_judged s d (sym c.is_built_in.ensures ∙ c.if-is_built_in.false))
    (subst (λ (ds : Directives Place). Adds c.args.faults.now c.check_at.new.faults (UsesAt s location.DirectiveDefinition ds)) (ap directives_of c.deref.ensures.value ∙ ap (λ (x : DirectiveDefinition). directives_of x.directives.0.items) c.content.ensures) h))
    c.check_at.ensures
