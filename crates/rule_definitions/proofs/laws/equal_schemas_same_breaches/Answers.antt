use Rattle.rule_definitions.proofs.Same.{read_the_same, same_breaches, same_verdict}
use Rattle.rule_definitions.proofs.laws.equal_schemas_same_breaches.Goals as goal

pub returns-clause-read : goal.returns-clause-read
returns-clause-read c = read_the_same

pub returns-clause-breaches : goal.returns-clause-breaches
returns-clause-breaches c = same_breaches

pub returns-clause-verdict : goal.returns-clause-verdict
returns-clause-verdict c = same_verdict
