use Rattle.book_validity.proofs.DocumentTyped.{typed_by_the_book}
use Rattle.book_validity.proofs.laws.typed_by_the_book.Goals as goal

pub returns : goal.returns
returns c = typed_by_the_book
