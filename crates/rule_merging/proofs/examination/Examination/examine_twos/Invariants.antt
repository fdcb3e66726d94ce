use Rattle.std.proofs.Common.{◌≡◌, ◌∷◌, [], List, take}
use Rattle.rule_field_groups.specs.Members.{meant_sets}
use Rattle.rule_field_groups.specs.Under.{Sets, sets_in}
use Rattle.rule_field_groups.specs.MergeState.{kept_of}
use Rattle.rule_merging.specs.Examined.{sets_of, ExaminesTwos, GrowsOver}
use Rattle.rule_field_groups.specs.Pairs.{AreTwosOf}
use Rattle.rule_merging.proofs.examination.Examination.examine_twos.Given as goal

abbrev pub invariant-loop-node : goal.invariant-loop-node
invariant-loop-node l = record {
  seen : l.seen ≡ l.node-index;
  examined : (twos : List Sets) × (AreTwosOf (meant_sets (sets_of l.self) (take l.node-index l.nodes)) twos
      × ExaminesTwos l.self twos (kept_of (sets_of l.self) l.fn.examined) (kept_of (sets_of l.self) l.examined) l.fn.breaches l.breaches (sets_in (sets_of l.self) l.fn.examined.next) (sets_in (sets_of l.self) l.examined.next));
  counted : GrowsOver l.self (meant_sets (sets_of l.self) l.nodes ∷ []) l.fn.examined l.examined;
}
