use Rattle.book_validity.proofs.AcceptedFacts.{kept_whole}
use Rattle.book_validity.proofs.laws.typed_is_kept_whole.Goals as goal

pub returns : goal.returns
returns c = kept_whole
