use Rattle.book_validity.proofs.AcceptedFacts.{schemas_by_the_book, documents_by_the_book, accepted_by_the_book}
use Rattle.book_validity.proofs.laws.accepted_by_the_book.Goals as goal

pub returns-clause-schemas : goal.returns-clause-schemas
returns-clause-schemas c = schemas_by_the_book

pub returns-clause-documents : goal.returns-clause-documents
returns-clause-documents c = documents_by_the_book

pub returns-clause-texts : goal.returns-clause-texts
returns-clause-texts c = accepted_by_the_book
