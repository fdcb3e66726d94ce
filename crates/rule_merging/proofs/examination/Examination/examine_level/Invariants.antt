use Rattle.std.proofs.Common.{[], map, take}
use Rattle.list_interner.specs.NumberRows.{rows_of}
use Rattle.rule_field_groups.specs.Members.{meant_sets}
use Rattle.rule_field_groups.specs.MergeState.{kept_of}
use Rattle.rule_field_groups.specs.Under.{sets_in}
use Rattle.rule_merging.specs.Examined.{sets_of, ExaminesSets, GrowsOver}
use Rattle.rule_merging.proofs.examination.Examination.examine_level.Given as goal

abbrev pub invariant-loop-place : goal.invariant-loop-place
invariant-loop-place l = record {
  examined : ExaminesSets l.self (map (meant_sets (sets_of l.self)) (take l.place (rows_of l.level))) (kept_of (sets_of l.self) l.fn.examined) (kept_of (sets_of l.self) l.examined) l.fn.breaches l.breaches [] (sets_in (sets_of l.self) l.examined.next);
  counted : GrowsOver l.self (sets_in (sets_of l.self) l.level) l.fn.examined l.examined;
}
