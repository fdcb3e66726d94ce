use Rattle.rule_merging.proofs.Operating.{looks_few}
use Rattle.rule_merging.proofs.operation.left_in_either.Goals as goal

pub returns-then-left-clause-pairs : goal.returns-then-left-clause-pairs
returns-then-left-clause-pairs c = looks_few c.args.examined.now (c.is_known.ensures c.if-not-is_known.false)

pub returns-else-left-clause-pairs : goal.returns-else-left-clause-pairs
returns-else-left-clause-pairs c = looks_few c.args.examined.now (c.is_known.ensures c.if-not-is_known.false)
