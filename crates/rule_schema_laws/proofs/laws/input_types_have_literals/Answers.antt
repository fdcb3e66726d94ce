use Rattle.rule_schema_laws.proofs.Validated.{literals_after}
use Rattle.rule_schema_laws.proofs.laws.input_types_have_literals.Goals as goal

pub returns : goal.returns
returns c = literals_after
