use Rattle.std.proofs.Common.{◌∙◌, ap, subst}
use Rattle.std.proofs.lemmas.Result.{on_ok_weaker}
use Rattle.graphql_names.specs.Placed.{Place, node_tree}
use Rattle.tree_directives.specs.DirectiveTree.{Directives, directives_tree}
use Rattle.document_typed_operations.specs.TypedDocument.{typed_operation_tree}
use Rattle.document_typed_operations.specs.declared.operation.Operation.{Operation}
use Rattle.rule_reach.specs.in_typed_operations.DocumentView.{meant_by_operation}
use Rattle.fault_data.specs.FaultView.{faults_of}
use Rattle.fault_data.specs.Adds.{Adds}
use Rattle.rule_definitions.specs.Words.{AtSomeIndex}
use Rattle.rule_definitions.specs.GivenValues.{Variables}
use Rattle.rule_arguments.specs.in_rule_values.Wanting.{variables_of}
use Rattle.rule_arguments.specs.Alone.{DirectivesAloneBreak}
use Rattle.rule_arguments.specs.Trees.{directives_of}
use Rattle.rule_definitions.proofs.Adding.{gains_both, gains_same}
use Rattle.rule_reach.specs.Reach.{reached_members, reached_fragments_of}
use Rattle.rule_selections.proofs.Selecting.{given_in_breaks}
use Rattle.rule_selections.proofs.alone.check_selections_alone.Goals as goal

pub returns : goal.returns
returns c =
    let o = meant_by_operation (node_tree typed_operation_tree c.args.operation.now) in
    let r = c.args.reach.now in
    let is = c.content-operation.ensures in
    let a = faults_of c.args.faults.now in
    let b = faults_of c.check_directives_alone.new.faults in
    let d = faults_of c.check_variables_alone.new.faults in
    let e = faults_of c.check_each_selection_alone.new.faults in
    let z = faults_of c.check_fragments_alone.new.faults in
    let used = ap directives_of c.deref.ensures.value ∙ ap (λ (x : Operation). directives_tree x.directives) is in
    let vs = ap variables_of c.deref-2.ensures.value ∙ ap (λ (x : Operation). variables_of x.variables.items) is in
    on_ok_weaker c.check_fragments_alone.result
    (λ h doc reaches. gains_same a z (given_in_breaks doc o (reached_members r) (reached_fragments_of r) reaches)
    (gains_both a b z
    (subst (λ (l : Directives Place). Adds c.args.faults.now c.check_directives_alone.new.faults (DirectivesAloneBreak l)) used c.in_ok-check_directives_alone.ensures)
    (gains_both b d z
    (subst (λ (l : Variables Place). Adds c.check_directives_alone.new.faults c.check_variables_alone.new.faults (λ f. AtSomeIndex l (λ k x. DirectivesAloneBreak x.it.directives f))) vs c.in_ok-check_variables_alone.ensures)
    (gains_both d e z
    c.in_ok-check_each_selection_alone.ensures h))))
    c.check_fragments_alone.ensures
