use Rattle.std.proofs.Common.{rules}
use Rattle.document_typed_operations.specs.Reached.{document_fragments}
use Rattle.document_typed_operations.specs.Lending.{root_fields_left}
use Rattle.document_typed_operations.specs.TypedDocument.{typed_operation_tree, typed_document_tree}
use Rattle.graphql_documents.proofs.Asking.{looked_at, no_query}
use Rattle.graphql_documents.proofs.operation.OperationOperationExt.is_introspection.Goals as goal

pub returns-then-not-is_query : goal.returns-then-not-is_query
returns-then-not-is_query c =
    no_query (document_fragments (typed_document_tree c.args.document.now)) (typed_operation_tree c.args.self.now) (root_fields_left c.root_fields-root_fields.result) c.root_fields-root_fields.ensures.walk (search rules)

pub returns : goal.returns
returns c =
    looked_at (document_fragments (typed_document_tree c.args.document.now)) (typed_operation_tree c.args.self.now) (root_fields_left c.root_fields-root_fields.result) c.root_fields-root_fields.ensures.walk c.are_meta_fields.result (search rules) c.are_meta_fields.ensures
