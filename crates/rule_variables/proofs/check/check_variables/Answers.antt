use Rattle.std.proofs.Common.{ap, subst, ◌∙◌}
use Rattle.std.proofs.lemmas.Result.{on_ok_weaker}
use Rattle.graphql_names.specs.Placed.{Place, node_tree}
use Rattle.document_typed_operations.specs.TypedDocument.{typed_operation_tree}
use Rattle.document_typed_operations.specs.declared.operation.Operation.{Operation}
use Rattle.rule_reach.specs.in_typed_operations.DocumentView.{meant_by_operation}
use Rattle.rule_definitions.specs.Words.{AtSomeIndex}
use Rattle.rule_definitions.specs.GivenValues.{Variables}
use Rattle.graphql_schema.specs.SchemaOf.{schema_tree}
use Rattle.rule_arguments.specs.in_fault_data.FaultView.{faults_of}
use Rattle.rule_arguments.specs.in_fault_data.Adds.{Adds}
use Rattle.rule_arguments.specs.in_rule_values.Wanting.{variables_of}
use Rattle.rule_definitions.proofs.Adding.{gains_same}
use Rattle.rule_variables.specs.VariableFaults.{VariableBreaks}
use Rattle.rule_variables.proofs.Under.{breaks_under}
use Rattle.rule_variables.proofs.check.check_variables.Goals as goal

pub returns : goal.returns
returns c =
    let s = schema_tree c.args.schema.now in
    let o = meant_by_operation (node_tree typed_operation_tree c.args.operation.now) in
    let own = ap variables_of c.deref.ensures.value ∙ ap (λ (p : Operation). variables_of p.variables.items) c.content.ensures in
    on_ok_weaker c.check_each_variable.result
    (λ h. gains_same (faults_of c.args.faults.now) (faults_of c.check_each_variable.new.faults) (breaks_under s o)
    (subst (λ (vs : Variables Place). Adds c.args.faults.now c.check_each_variable.new.faults (λ f. AtSomeIndex vs (λ i x. VariableBreaks s x f))) own h))
    c.check_each_variable.ensures
