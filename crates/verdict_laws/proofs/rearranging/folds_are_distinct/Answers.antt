use Rattle.rule_schema_laws.proofs.Distinct.{folds_distinct}
use Rattle.verdict_laws.proofs.rearranging.folds_are_distinct.Goals as goal

pub returns : goal.returns
returns c = folds_distinct
