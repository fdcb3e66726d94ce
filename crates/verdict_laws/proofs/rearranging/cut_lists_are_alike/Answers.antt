use Rattle.verdict_laws.proofs.RearrangedLists.{cut}
use Rattle.verdict_laws.proofs.Cut.{keeps_types, writes_alike}
use Rattle.verdict_laws.proofs.rearranging.cut_lists_are_alike.Goals as goal

pub returns-clause-rearranged : goal.returns-clause-rearranged
returns-clause-rearranged c = cut

pub returns-clause-types : goal.returns-clause-types
returns-clause-types c = keeps_types

pub returns-clause-written : goal.returns-clause-written
returns-clause-written c = writes_alike
