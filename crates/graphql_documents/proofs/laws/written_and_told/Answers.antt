use Rattle.std.proofs.Common.{ap, ◌∙◌}
use Rattle.document_typing.specs.in_typed_operations.TypedDocument.{typed_document_tree}
use Rattle.document_typing.specs.OutDoc.{written_document}
use Rattle.document_typing.proofs.WrittenMeant.{document-written}
use Rattle.graphql_documents.proofs.laws.written_and_told.Goals as goal

pub returns-clause-written : goal.returns-clause-written
returns-clause-written c =
    c.in_ok-written.ensures.definitions
    ∙ document-written (typed_document_tree c.in_ok-document.document)
    ∙ ap written_document c.in_ok-document.ensures.document

pub returns-clause-whole : goal.returns-clause-whole
returns-clause-whole c none =
    c.in_ok-written.ensures.definitions
    ∙ document-written (typed_document_tree c.in_ok-document.document)
    ∙ c.in_ok-document.ensures.whole none
