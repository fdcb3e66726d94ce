use Rattle.verdict_laws.proofs.AnyNumber.{equal_judge, equal_accept, equal_accept_for_sure}
use Rattle.verdict_laws.proofs.verdicts.equal_schemas_judge_alike.Goals as goal

pub returns-clause-verdict : goal.returns-clause-verdict
returns-clause-verdict c = equal_judge

pub returns-clause-accepted : goal.returns-clause-accepted
returns-clause-accepted c = equal_accept

pub returns-clause-certain : goal.returns-clause-certain
returns-clause-certain c = equal_accept_for_sure
