use Rattle.book_validity.proofs.ExceptionFacts.{usages_allowed, spreads_possible}
use Rattle.book_validity.proofs.laws.two_algorithms_but_for_exceptions.Goals as goal

pub returns-clause-usages : goal.returns-clause-usages
returns-clause-usages c = usages_allowed

pub returns-clause-spreads : goal.returns-clause-spreads
returns-clause-spreads c = spreads_possible
