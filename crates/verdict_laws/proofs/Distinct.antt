-- Lists that are rearranged leave equal schemas after validation.
use Rattle.schema_fold.specs.Fold.{fold}
use Rattle.rule_definitions.specs.Kept.{validated}
use Rattle.rule_definitions.proofs.Same.{read_the_same}
use Rattle.rule_schema_laws.proofs.Distinct.{folds_distinct}
use Rattle.verdict_laws.specs.Judging.{RearrangedLeaveEqual, RearrangedJudgeAlike}
use Rattle.verdict_laws.proofs.EqualAfter.{equal_after}
use Rattle.verdict_laws.proofs.Marks.{are_equal}

pub left_equal : RearrangedLeaveEqual
left_equal built_in i j ds es r hd he =
    equal_after (fold built_in i ds) (fold built_in j es) (folds_distinct built_in i ds) (folds_distinct built_in j es) (are_equal built_in i j ds es r hd he)

pub judge_alike : RearrangedJudgeAlike
judge_alike built_in i j ds es r hd he = read_the_same (validated (fold built_in i ds)) (validated (fold built_in j es)) (left_equal built_in i j ds es r hd he)
