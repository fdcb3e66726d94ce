use Rattle.std.proofs.Common.{◌∙◌, map, ap, subst}
use Rattle.document_typed_operations.specs.OperationsByName.{left_operations}
use Rattle.rule_reach.specs.in_typed_operations.DocumentView.{document_meant, operation_meant}
use Rattle.rule_document_definitions.specs.Selected.{operations}
use Rattle.rule_arguments.specs.in_rule_values.Wanting.{variables_of}
use Rattle.rule_selections.specs.Settled.{AreThoseDefined}
use Rattle.rule_selections.proofs.DefinedAlike.{all_left, one_passed, all_passed}
use Rattle.rule_selections.proofs.EachOperation.{all_operations}
use Rattle.rule_selections.proofs.common.keep_common.Goals as goal

pub loop-operation-init : goal.loop-operation-init
loop-operation-init c =
    all_left operation_meant (operations (document_meant c.args.document.now)) (variables_of c.args.common.now.items) (left_operations c.into_iter-operation-iterator.result)
    ((λ i. map operation_meant (left_operations (c.into_iter-operation-iterator.ensures.into_iter_gives i)))
    ∙ all_operations c.args.document.now (left_operations c.iter-operation-items.result) c.iter-operation-items.ensures)

pub loop-operation-preserved : goal.loop-operation-preserved
loop-operation-preserved c =
    let old = c.loop-operation.common.items in
    let x = c.in-Some.operation.now in
    one_passed operation_meant (operations (document_meant c.args.document.now)) (variables_of old) (variables_of c.in_ok-kept.kept.items) x
    (left_operations c.loop-operation.operation-iterator) (left_operations c.next.new.self) c.in-Some.ensures.steps
    (subst (λ l. AreThoseDefined (operation_meant x).variables (variables_of l) (variables_of c.in_ok-kept.kept.items)) c.as_slice.ensures.value c.in_ok-kept.ensures) c.loop-operation.invariant

pub returns : goal.returns
returns c = all_passed operation_meant (operations (document_meant c.args.document.now)) (variables_of c.loop-operation.common.items) (left_operations c.loop-operation.operation-iterator) c.in-None.ensures.steps.0 c.loop-operation.invariant
