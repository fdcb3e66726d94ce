use Rattle.verdict_laws.proofs.Marks.{are_equal, rearranged_same_verdict}
use Rattle.verdict_laws.proofs.Distinct.{left_equal, judge_alike}
use Rattle.verdict_laws.proofs.rearranging.rearranged_lists_judge_alike.Goals as goal

pub returns-clause-equal : goal.returns-clause-equal
returns-clause-equal c = are_equal

pub returns-clause-verdict : goal.returns-clause-verdict
returns-clause-verdict c = rearranged_same_verdict

pub returns-clause-left : goal.returns-clause-left
returns-clause-left c = left_equal

pub returns-clause-judged : goal.returns-clause-judged
returns-clause-judged c = judge_alike
