use Rattle.book_validity.proofs.FoldingFacts.{folded_by_the_book}
use Rattle.book_validity.proofs.laws.folded_by_the_book.Goals as goal

pub returns : goal.returns
returns c = folded_by_the_book
