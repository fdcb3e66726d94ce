-- Private: leads to `specs/DocumentMessages.antt`. The text of a template with its gaps filled.
use Rattle.std.specs.Prelude.{ℕ, List, ◌++◌}
use Rattle.tree_operations.specs.OperationQueries.{operation_keyword}
use Rattle.fault_document_errors.specs.declared.build_error_text.Words.{Words}
use Rattle.fault_document_errors.specs.declared.build_error_text.Words.TheVariants.{Whole, Named, Operation, TwoNames}

abbrev pub worded : Words → List ℕ
worded (Whole text) = text.now
worded (Named front name back) = front.now ++ (name.now.text ++ back.now)
worded (Operation front operation back) = front.now ++ (operation_keyword operation ++ back.now)
worded (TwoNames front first middle second back) = front.now ++ (first.now.text ++ (middle.now ++ (second.now.text ++ back.now)))
