use Rattle.document_typed_operations.specs.OperationsByName.{left_operations}
use Rattle.rule_reach.specs.in_typed_operations.DocumentView.{document_meant, operation_meant}
use Rattle.rule_document_definitions.specs.Selected.{operations}
use Rattle.rule_arguments.specs.in_rule_values.Wanting.{variables_of}
use Rattle.rule_selections.proofs.DefinedAlike.{AreDefinedBut}
use Rattle.rule_selections.proofs.common.keep_common.Given as goal

abbrev pub invariant-loop-operation : goal.invariant-loop-operation
invariant-loop-operation l = AreDefinedBut operation_meant (operations (document_meant l.document)) (variables_of l.common.items) (left_operations l.operation-iterator)
