use Rattle.rule_schema_laws.proofs.Ordered.{ordered}
use Rattle.rule_schema_laws.proofs.Validated.{ordered_after}
use Rattle.rule_schema_laws.proofs.laws.implementing_is_an_order.Goals as goal

pub returns-clause-given : goal.returns-clause-given
returns-clause-given c = ordered

pub returns-clause-left : goal.returns-clause-left
returns-clause-left c = ordered_after
