use Rattle.book_validity.proofs.Typed.{operation_merges}
use Rattle.book_validity.proofs.Folded.{accepted}
use Rattle.book_validity.proofs.laws.merging_is_as_specified.Goals as goal

pub returns-clause-accepted : goal.returns-clause-accepted
returns-clause-accepted c = accepted

pub returns-clause-typed : goal.returns-clause-typed
returns-clause-typed c s d o typed = operation_merges s d o typed
