use Rattle.std.proofs.Common.{◌<◌, ◌+◌, ◌∙◌, take, length, ap, subst, arith}
use Rattle.std.proofs.lemmas.List.{take_all}
use Rattle.graphql_names.specs.Placed.{Place, Placed, node_tree}
use Rattle.tree_directives.specs.DirectiveTree.{Directives, directives_tree}
use Rattle.tree_operations.specs.OperationTree.{VariableDefinitionTree, variable_definition_tree}
use Rattle.tree_operations.specs.declared.operation.VariableDefinition.{VariableDefinition}
use Rattle.fault_data.specs.FaultView.{faults_of}
use Rattle.fault_data.specs.Adds.{Adds}
use Rattle.rule_definitions.specs.Words.{AtSomeIndex}
use Rattle.rule_arguments.specs.in_rule_values.Wanting.{variables_of}
use Rattle.rule_arguments.specs.Alone.{DirectivesAloneBreak}
use Rattle.rule_arguments.specs.Trees.{directives_of}
use Rattle.rule_definitions.proofs.Listing.{mapped_more}
use Rattle.rule_definitions.proofs.Adding.{gains_none, gains_more}
use Rattle.rule_selections.proofs.alone.check_variables_alone.Goals as goal

pub loop-variable-init : goal.loop-variable-init
loop-variable-init c = gains_none {X = Placed Place (VariableDefinitionTree Place)} (faults_of c.args.faults.now) (λ k x f. DirectivesAloneBreak x.it.directives f)

pub loop-variable-preserved : goal.loop-variable-preserved
loop-variable-preserved c =
    let xs = c.args.variables.now in
    let i = c.loop-variable.variable-index in
    let x = c.variable-item.result in
    let h : i < length xs = omega arith in
    let used = ap directives_of c.deref.ensures.value ∙ ap (λ (v : VariableDefinition). directives_tree v.directives) c.content.ensures in
    gains_more (faults_of c.args.faults.now) (faults_of c.loop-variable.faults) (faults_of c.check_directives_alone.new.faults) (variables_of (take i xs)) (variables_of (take (i + 1) xs)) (node_tree variable_definition_tree x)
    (λ k x f. DirectivesAloneBreak x.it.directives f) (mapped_more (node_tree variable_definition_tree) xs i x h c.variable-item.is) c.loop-variable.invariant
    (subst (λ (l : Directives Place). Adds c.loop-variable.faults c.check_directives_alone.new.faults (DirectivesAloneBreak l)) used c.in_ok-check_directives_alone.ensures)

pub returns : goal.returns
returns c = subst (λ l. Adds c.args.faults.now c.loop-variable.faults (λ f. AtSomeIndex (variables_of l) (λ i x. DirectivesAloneBreak x.it.directives f)))
    (take_all c.loop-variable.variable-index c.args.variables.now c.loop-variable-test.false) c.loop-variable.invariant
