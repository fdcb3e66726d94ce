use Rattle.std.proofs.Common.{[], List, subst}
use Rattle.std.proofs.lemmas.Result.{on_ok_weaker}
use Rattle.graphql_names.specs.Node.{content, place}
use Rattle.graphql_names.specs.declared.node.Node.{Node}
use Rattle.tree_literals.specs.ValueTree.{value_tree}
use Rattle.tree_operations.specs.OperationTree.{variable_definition_tree}
use Rattle.tree_operations.specs.declared.operation.VariableDefinition.{VariableDefinition}
use Rattle.rule_definitions.specs.Values.{ValueBreaks}
use Rattle.graphql_schema.specs.SchemaOf.{schema_tree}
use Rattle.schema_types.specs.Addresses.{place_at}
use Rattle.rule_definitions.specs.Judged.{judged}
use Rattle.rule_arguments.specs.in_fault_data.FaultView.{faults_of}
use Rattle.rule_arguments.specs.in_fault_data.Adds.{Adds}
use Rattle.rule_arguments.specs.in_rule_values.Wanting.{wanted_type, variables_of}
use Rattle.rule_definitions.proofs.Adding.{gains_same}
use Rattle.rule_variables.specs.VariableFaults.{DefaultBreaks}
use Rattle.rule_variables.proofs.Told.{of_default}
use Rattle.rule_variables.proofs.types.check_default.Goals as goal

pub returns-in-Some : goal.returns-in-Some
returns-in-Some c =
    let s = schema_tree c.args.schema.now in
    let v = c.content-defined.result.now in
    let p = place c.args.variable.now in
    on_ok_weaker c.check_value.result
    (λ h. subst (λ (w : VariableDefinition). Adds c.args.faults.now c.check_value.new.faults (DefaultBreaks s (record { it = variable_definition_tree w; place = p }))) c.content-defined.ensures
    (gains_same (faults_of c.args.faults.now) (faults_of c.check_value.new.faults) (λ f. of_default v c.in-Some.value c.in-Some.is (λ x. ValueBreaks (place_at s) (judged s) [] (wanted_type v.ty) x.place x.it f))
    (subst (λ (ds : List (Node VariableDefinition)). Adds c.args.faults.now c.check_value.new.faults (ValueBreaks (place_at s) (judged s) (variables_of ds) (wanted_type v.ty) (place c.in-Some.value) (value_tree (content c.in-Some.value)))) c.listed-variables.ensures h)))
    c.check_value.ensures
