use Rattle.std.proofs.Common.{ℕ, List, map, subst, ap, ◌∙◌}
use Rattle.std.specs.Borrow.{Bor}
use Rattle.std.proofs.lemmas.Iterator.Consumers.{YieldsList-end, YieldsList-from_rest}
use Rattle.graphql_names.specs.NameValue.{NameValue}
use Rattle.graphql_names.specs.Placed.{Placed, Place}
use Rattle.graphql_names.specs.declared.node.Node.{Node}
use Rattle.tree_directives.specs.DirectiveTree.{DirectiveDefinitionTree}
use Rattle.tree_directives.specs.declared.directive.DirectiveDefinition.{DirectiveDefinition}
use Rattle.tree_directives.specs.declared.input_value.InputValueDefinition.{InputValueDefinition}
use Rattle.tree_directives.specs.DirectiveTree.{input_value_trees}
use Rattle.graphql_schema.specs.SchemaOf.{schema_tree}
use Rattle.rule_definitions.proofs.Adding.{gains_none, gains_more}
use Rattle.fault_data.specs.Adds.{Adds}
use Rattle.fault_data.specs.FaultView.{faults_of}
use Rattle.strict_schemas.specs.FaultsIn.{DefaultsIn, DefinitionsDefaults}
use Rattle.strict_schemas.specs.Told.{definition_entry}
use Rattle.strict_schemas.proofs.Pairs.{pairs_more}
use Rattle.strict_schemas.proofs.defaults.check_definitions.Goals as goal

pub loop-definition-init : goal.loop-definition-init
loop-definition-init c = gains_none {X = List ℕ × Placed Place (DirectiveDefinitionTree Place)} (faults_of c.args.faults.now) (λ k e f. DefaultsIn (schema_tree c.args.schema.now) e.1.it.arguments f)

pub loop-definition-preserved : goal.loop-definition-preserved
loop-definition-preserved c =
    let d : (Bor NameValue × Bor (Node DirectiveDefinition)) → NameValue × Node DirectiveDefinition = λ e. (e.0.now, e.1.now) in
    gains_more (faults_of c.args.faults.now) (faults_of c.loop-definition.faults) (faults_of c.check_arguments.new.faults) (map definition_entry (map d c.loop-definition.yielded)) _ _
    (λ k e f. DefaultsIn (schema_tree c.args.schema.now) e.1.it.arguments f) (pairs_more definition_entry d c.loop-definition.yielded _) c.loop-definition.invariant
    (subst (λ (l : List (Node InputValueDefinition)). Adds c.loop-definition.faults c.check_arguments.new.faults (DefaultsIn (schema_tree c.args.schema.now) (input_value_trees l))) (c.as_slice-arguments.ensures.value ∙ ap (λ (x : DirectiveDefinition). x.arguments.items) c.content.ensures) c.in_ok-check_arguments.ensures)

pub returns : goal.returns
returns c =
    let all = YieldsList-end (YieldsList-from_rest c.args.definitions.now.entries c.into_iter-definition-iterator.ensures.into_iter_gives.0) c.loop-definition.yielded c.loop-definition.definition-iterator c.loop-definition.yielded_by c.next.result c.next.new.self c.in-None.is c.next.ensures.steps in
    subst (λ (l : List (NameValue × Node DirectiveDefinition)). Adds c.args.faults.now c.loop-definition.faults (DefinitionsDefaults (schema_tree c.args.schema.now) (map definition_entry l))) all.0 c.loop-definition.invariant
