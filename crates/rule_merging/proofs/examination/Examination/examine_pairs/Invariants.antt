use Rattle.std.proofs.Common.{◌+◌, ◌-◌, ◌^◌, length}
use Rattle.list_interner.specs.NumberPairs.{pairs_kept}
use Rattle.rule_field_groups.specs.Under.{sets_in}
use Rattle.rule_field_groups.specs.MergeState.{kept_of}
use Rattle.rule_merging.specs.Examined.{sets_of, ExaminesSome, GrowsHere}
use Rattle.rule_merging.proofs.examination.Examination.examine_pairs.Given as goal

abbrev pub invariant-loop-pair : goal.invariant-loop-pair
invariant-loop-pair l = record {
  examined : ExaminesSome l.self (kept_of (sets_of l.self) l.fn.examined) (kept_of (sets_of l.self) l.examined) l.fn.breaches l.breaches (sets_in (sets_of l.self) l.fn.examined.next) (sets_in (sets_of l.self) l.examined.next);
  counted : GrowsHere l.self l.fn.examined l.examined;
}

-- each pair that waits, and each that was not looked at
abbrev pub decreases-loop-pair : goal.decreases-loop-pair
decreases-loop-pair l = (2 ^ 126 - length (pairs_kept l.examined.looked)) + length l.examined.pairs.items
