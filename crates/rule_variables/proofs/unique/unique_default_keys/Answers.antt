use Rattle.std.proofs.Common.{subst}
use Rattle.std.proofs.lemmas.Result.{on_ok_weaker}
use Rattle.graphql_names.specs.Node.{place}
use Rattle.tree_operations.specs.OperationTree.{variable_definition_tree}
use Rattle.tree_operations.specs.declared.operation.VariableDefinition.{VariableDefinition}
use Rattle.rule_definitions.specs.Values.{UniqueInputValueIn}
use Rattle.rule_arguments.specs.in_fault_data.FaultView.{faults_of}
use Rattle.rule_arguments.specs.in_fault_data.Adds.{Adds}
use Rattle.rule_definitions.proofs.Adding.{gains_same}
use Rattle.rule_variables.specs.VariableFaults.{DefaultKeyBreaks}
use Rattle.rule_variables.proofs.Told.{of_default}
use Rattle.rule_variables.proofs.unique.unique_default_keys.Goals as goal

pub returns-in-Some : goal.returns-in-Some
returns-in-Some c =
    let v = c.content.result.now in
    let p = place c.args.variable.now in
    on_ok_weaker c.unique_input_values.result
    (λ h. subst (λ (w : VariableDefinition). Adds c.args.faults.now c.unique_input_values.new.faults (DefaultKeyBreaks (record { it = variable_definition_tree w; place = p }))) c.content.ensures
    (gains_same (faults_of c.args.faults.now) (faults_of c.unique_input_values.new.faults) (λ f. of_default v c.in-Some.value c.in-Some.is (λ x. UniqueInputValueIn x.it f)) h))
    c.unique_input_values.ensures
