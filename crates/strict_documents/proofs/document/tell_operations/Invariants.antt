use Rattle.std.proofs.Common.{◌≡◌, ◌++◌, map}
use Rattle.graphql_schema.specs.SchemaOf.{schema_tree}
use Rattle.document_typed_operations.specs.DocumentView.{document_meant, operation_meant}
use Rattle.document_typed_operations.specs.OperationsByName.{left_operations}
use Rattle.rule_definitions.specs.Words.{AtSomeIndex}
use Rattle.rule_document_definitions.specs.Selected.{operations}
use Rattle.strict_documents.specs.DepartsIn.{DepartsInOperation}
use Rattle.strict_documents.specs.Telling.{AddsDepartures}
use Rattle.strict_documents.proofs.Operations.{lent_operations}
use Rattle.strict_documents.proofs.document.tell_operations.Given as goal

abbrev pub invariant-loop-operation : goal.invariant-loop-operation
invariant-loop-operation l = AddsDepartures l.fn.departures l.departures (λ u. AtSomeIndex (lent_operations l.yielded) (λ i o. DepartsInOperation (schema_tree l.schema) (document_meant l.document) u o))
    × (lent_operations l.yielded ++ map operation_meant (left_operations l.operation-iterator) ≡ operations (document_meant l.document))
