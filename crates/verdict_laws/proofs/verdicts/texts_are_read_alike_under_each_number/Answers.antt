use Rattle.verdict_laws.proofs.AnyNumber.{one_tree, read_alike, written_alike}
use Rattle.verdict_laws.proofs.verdicts.texts_are_read_alike_under_each_number.Goals as goal

pub returns-clause-one : goal.returns-clause-one
returns-clause-one c = one_tree

pub returns-clause-alike : goal.returns-clause-alike
returns-clause-alike c = read_alike

pub returns-clause-written : goal.returns-clause-written
returns-clause-written c = written_alike
