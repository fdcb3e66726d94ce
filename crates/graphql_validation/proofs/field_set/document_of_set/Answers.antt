use Rattle.std.proofs.Common.{◌∙◌, ap}
use Rattle.document_typed_selections.specs.TypedTree.{typed_set_tree}
use Rattle.document_typed_operations.specs.TypedDocument.{typed_operation_tree}
use Rattle.graphql_validation.proofs.OneSet.{document_of_one}
use Rattle.graphql_validation.proofs.field_set.document_of_set.Goals as goal

pub returns : goal.returns
returns c =
    document_of_one (record { sources = c.new-2.result; operations = c.in_ok-from_one.field-0; fragments = c.new-3.result }) c.in_ok-operation.operation (typed_set_tree c.args.set.now.selection_set)
    c.in_ok-from_one.ensures c.new-3.ensures.empty (ap typed_operation_tree c.in_ok-operation.ensures.content ∙ c.in_ok-query_on.ensures) c.in_ok-operation.ensures.place
