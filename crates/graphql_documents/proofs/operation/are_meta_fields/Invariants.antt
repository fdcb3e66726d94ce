use Rattle.std.proofs.Common.{◌≡◌}
use Rattle.document_typed_operations.specs.Lending.{root_fields_left}
use Rattle.graphql_documents.specs.Introspection.{are_meta_fields}
use Rattle.graphql_documents.proofs.operation.are_meta_fields.Given as goal

abbrev pub invariant-loop-field : goal.invariant-loop-field
invariant-loop-field l = are_meta_fields (root_fields_left l.field-iterator) ≡ are_meta_fields (root_fields_left l.fn.fields)
