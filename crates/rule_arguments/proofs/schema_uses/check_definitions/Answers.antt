use Rattle.std.proofs.Common.{ℕ, List, map, ap, subst, ◌∙◌}
use Rattle.std.specs.Borrow.{Bor}
use Rattle.std.proofs.lemmas.Iterator.Consumers.{YieldsList-end, YieldsList-from_rest}
use Rattle.graphql_names.specs.NameValue.{NameValue}
use Rattle.graphql_names.specs.Placed.{Placed, Place, node_tree}
use Rattle.graphql_names.specs.declared.node.Node.{Node}
use Rattle.tree_directives.specs.declared.directive.DirectiveDefinition.{DirectiveDefinition}
use Rattle.tree_directives.specs.DirectiveTree.{InputValues, DirectiveDefinitionTree, directive_definition_tree, input_value_trees}
use Rattle.rule_values.specs.in_schema.in_schema_types.TypeView.{name_text}
use Rattle.rule_values.specs.in_schema.SchemaOf.{schema_tree}
use Rattle.rule_values.specs.in_fault_data.FaultView.{faults_of}
use Rattle.rule_values.specs.in_fault_data.Adds.{Adds}
use Rattle.rule_arguments.specs.SchemaUses.{ArgumentUses, DefinitionUses, DefinitionsUses}
use Rattle.rule_values.proofs.in_fault_data.Adding.{gains_none, gains_more, gains_both}
use Rattle.rule_arguments.proofs.SchemaSteps.{pairs_more}
use Rattle.rule_arguments.proofs.schema_uses.check_definitions.Goals as goal

pub loop-definition-init : goal.loop-definition-init
loop-definition-init c =
    let s = schema_tree c.args.schema.now in
    gains_none {X = List ℕ × Placed Place (DirectiveDefinitionTree Place)} (faults_of c.args.faults.now) (λ k e f. DefinitionUses s e.1 f)

pub loop-definition-preserved : goal.loop-definition-preserved
loop-definition-preserved c =
    let s = schema_tree c.args.schema.now in
    let g : NameValue × Node DirectiveDefinition → List ℕ × Placed Place (DirectiveDefinitionTree Place) = λ e. (name_text e.0, node_tree directive_definition_tree e.1) in
    let d : (Bor NameValue × Bor (Node DirectiveDefinition)) → NameValue × Node DirectiveDefinition = λ e. (e.0.now, e.1.now) in
    let now = faults_of c.loop-definition.faults in
    let after = faults_of c.check_arguments.new.faults in
    gains_more (faults_of c.args.faults.now) now after (map g (map d c.loop-definition.yielded)) _ _
    (λ k e f. DefinitionUses s e.1 f) (pairs_more g d c.loop-definition.yielded _) c.loop-definition.invariant
    (gains_both now (faults_of c.check_own_definition.new.faults) after c.in_ok-check_own_definition.ensures
    (subst (λ (l : InputValues Place). Adds c.check_own_definition.new.faults c.check_arguments.new.faults (ArgumentUses s l)) (ap input_value_trees c.deref.ensures.value ∙ ap (λ (x : DirectiveDefinition). input_value_trees x.arguments.items) c.content.ensures) c.in_ok-check_arguments.ensures))

pub returns : goal.returns
returns c =
    let all = YieldsList-end (YieldsList-from_rest c.args.definitions.now.entries c.into_iter-definition-iterator.ensures.into_iter_gives.0) c.loop-definition.yielded c.loop-definition.definition-iterator c.loop-definition.yielded_by c.next.result c.next.new.self c.in-None.is c.next.ensures.steps in
    subst (λ (l : List (NameValue × Node DirectiveDefinition)). Adds c.args.faults.now c.loop-definition.faults (DefinitionsUses (schema_tree c.args.schema.now) (map (λ e. (name_text e.0, node_tree directive_definition_tree e.1)) l))) all.0 c.loop-definition.invariant
