use Rattle.rule_schema_laws.proofs.Others.{others_have_none}
use Rattle.rule_schema_laws.proofs.Small.{without}
use Rattle.rule_schema_laws.proofs.laws.other_scalars_have_no_literal.Goals as goal

pub returns-clause-none : goal.returns-clause-none
returns-clause-none c = others_have_none

pub returns-clause-example : goal.returns-clause-example
returns-clause-example c = without
