use Rattle.std.proofs.Common.{sym, ap, ◌∙◌, true≢false}
use Rattle.std.proofs.lemmas.Result.{on_ok_weaker}
use Rattle.graphql_names.specs.Placed.{node_tree}
use Rattle.tree_operations.specs.OperationTree.{variable_definition_tree}
use Rattle.graphql_schema.specs.SchemaOf.{schema_tree}
use Rattle.rule_arguments.specs.in_fault_data.FaultView.{faults_of}
use Rattle.rule_definitions.proofs.Adding.{gains_same, gains_nothing}
use Rattle.rule_variables.specs.VariableFaults.{JudgedDefaultBreaks, is_of_input_type}
use Rattle.rule_variables.proofs.types.check_judged_default.Goals as goal

pub returns-then-is_of_input_type : goal.returns-then-is_of_input_type
returns-then-is_of_input_type c =
    let is = sym (ap (λ y. is_of_input_type (schema_tree y) (node_tree variable_definition_tree c.args.variable.now)) c.schema.ensures) ∙ sym c.is_of_input_type.ensures ∙ c.if-is_of_input_type.true in
    on_ok_weaker c.check_default.result
    (λ h. gains_same (faults_of c.args.faults.now) (faults_of c.check_default.new.faults) (λ f. ((λ d. (is, d)), λ q. q.1)) h)
    c.check_default.ensures

pub returns : goal.returns
returns c =
    let is = sym (ap (λ y. is_of_input_type (schema_tree y) (node_tree variable_definition_tree c.args.variable.now)) c.schema.ensures) ∙ sym c.is_of_input_type.ensures ∙ c.if-is_of_input_type.false in
    gains_nothing (faults_of c.args.faults.now) (JudgedDefaultBreaks (schema_tree c.args.schema.now) (node_tree variable_definition_tree c.args.variable.now)) (λ f q. true≢false (sym q.0 ∙ is))
