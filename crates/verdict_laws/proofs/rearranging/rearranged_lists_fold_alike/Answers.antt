use Rattle.verdict_laws.proofs.RearrangedLists.{folds_alike}
use Rattle.verdict_laws.proofs.Faults.{fail_alike, keep_the_rules}
use Rattle.verdict_laws.proofs.rearranging.rearranged_lists_fold_alike.Goals as goal

pub returns-clause-schemas : goal.returns-clause-schemas
returns-clause-schemas c = folds_alike

pub returns-clause-faults : goal.returns-clause-faults
returns-clause-faults c = fail_alike

pub returns-clause-rules : goal.returns-clause-rules
returns-clause-rules c = keep_the_rules
