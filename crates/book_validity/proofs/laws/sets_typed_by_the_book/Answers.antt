use Rattle.book_validity.proofs.TypingFacts.{sets_typed}
use Rattle.book_validity.proofs.laws.sets_typed_by_the_book.Goals as goal

pub returns : goal.returns
returns c = sets_typed
