use Rattle.std.proofs.Common.{subst}
use Rattle.book_validity.specs.in_typing.DocumentView.{document_meant}
use Rattle.graphql_validation.specs.TellsDocument.{IsTypedUnder}
use Rattle.graphql_checked.specs.CheckedView.{schema_value}
use Rattle.graphql_checked.proofs.checked_document.CheckedDocument.document.Goals as goal

pub returns-clause-typed : goal.returns-clause-typed
returns-clause-typed c = subst (λ d. IsTypedUnder (schema_value d.schema).schema (document_meant d.document)) c.self.view_is c.self.invariant.typed
