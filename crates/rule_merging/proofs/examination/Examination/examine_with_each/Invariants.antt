use Rattle.std.proofs.Common.{◌∷◌, [], take}
use Rattle.rule_field_groups.specs.Under.{sets_in}
use Rattle.rule_field_groups.specs.MergeState.{kept_of}
use Rattle.rule_merging.specs.Examined.{sets_of}
use Rattle.rule_merging.specs.Twos.{are_of, PairsFields, GrowsByTwo}
use Rattle.rule_merging.proofs.examination.Examination.examine_with_each.Given as goal

abbrev pub invariant-loop-other : goal.invariant-loop-other
invariant-loop-other l = record {
  examined : PairsFields l.self (are_of (l.one ∷ []) (take l.other-index l.others)) (kept_of (sets_of l.self) l.fn.examined) (kept_of (sets_of l.self) l.examined) l.fn.breaches l.breaches (sets_in (sets_of l.self) l.fn.examined.next) (sets_in (sets_of l.self) l.examined.next);
  counted : GrowsByTwo l.self (are_of (l.one ∷ []) l.others) l.fn.examined l.examined;
}
