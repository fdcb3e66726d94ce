use Rattle.std.proofs.Common.{take}
use Rattle.rule_field_groups.specs.Under.{sets_in}
use Rattle.rule_field_groups.specs.MergeState.{kept_of}
use Rattle.rule_merging.specs.Examined.{sets_of}
use Rattle.rule_merging.specs.Twos.{are_of, PairsFields, GrowsByTwo}
use Rattle.rule_merging.proofs.examination.Examination.examine_each.Given as goal

abbrev pub invariant-loop-one : goal.invariant-loop-one
invariant-loop-one l = record {
  examined : PairsFields l.self (are_of (take l.one-index l.ones) l.others) (kept_of (sets_of l.self) l.fn.examined) (kept_of (sets_of l.self) l.examined) l.fn.breaches l.breaches (sets_in (sets_of l.self) l.fn.examined.next) (sets_in (sets_of l.self) l.examined.next);
  counted : GrowsByTwo l.self (are_of l.ones l.others) l.fn.examined l.examined;
}
