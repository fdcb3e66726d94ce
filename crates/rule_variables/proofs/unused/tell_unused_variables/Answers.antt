use Rattle.std.proofs.Common.{◌<◌, ◌+◌, take, length, subst, arith}
use Rattle.std.proofs.lemmas.List.{take_all}
use Rattle.graphql_names.specs.Placed.{node_tree}
use Rattle.tree_operations.specs.OperationTree.{variable_definition_tree}
use Rattle.rule_definitions.specs.Words.{AtSomeIndex}
use Rattle.rule_arguments.specs.in_fault_data.FaultView.{faults_of}
use Rattle.rule_arguments.specs.in_fault_data.Adds.{Adds}
use Rattle.rule_arguments.specs.in_rule_values.Wanting.{variables_of}
use Rattle.rule_definitions.proofs.Listing.{mapped_more}
use Rattle.rule_definitions.proofs.Adding.{gains_none, gains_more}
use Rattle.rule_reach.specs.NotedNames.{noted_names}
use Rattle.rule_variables.specs.VariableFaults.{Defined, UnusedAmong}
use Rattle.rule_variables.proofs.unused.tell_unused_variables.Goals as goal

pub loop-variable-init : goal.loop-variable-init
loop-variable-init c = gains_none {X = Defined} (faults_of c.args.faults.now) (λ k x f. UnusedAmong (noted_names c.args.used.now) x f)

pub loop-variable-preserved : goal.loop-variable-preserved
loop-variable-preserved c =
    let used = noted_names c.args.used.now in
    let xs = c.args.variables.now in
    let i = c.loop-variable.variable-index in
    let x = c.variable-item.result in
    let h : i < length xs = omega arith in
    gains_more (faults_of c.args.faults.now) (faults_of c.loop-variable.faults) (faults_of c.unused_variable.new.faults) (variables_of (take i xs)) (variables_of (take (i + 1) xs)) (node_tree variable_definition_tree x)
    (λ k y f. UnusedAmong used y f) (mapped_more (node_tree variable_definition_tree) xs i x h c.variable-item.is) c.loop-variable.invariant c.in_ok-unused_variable.ensures

pub returns : goal.returns
returns c =
    subst (λ l. Adds c.args.faults.now c.loop-variable.faults (λ f. AtSomeIndex (variables_of l) (λ i x. UnusedAmong (noted_names c.args.used.now) x f)))
    (take_all c.loop-variable.variable-index c.args.variables.now c.loop-variable-test.false) c.loop-variable.invariant
