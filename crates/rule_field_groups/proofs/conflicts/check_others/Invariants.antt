use Rattle.std.proofs.Common.{◌≤◌, ◌∷◌, length, take}
use Rattle.rule_field_groups.specs.Compared.{CountsUp}
use Rattle.rule_field_groups.specs.Conflicts.{judged_by}
use Rattle.rule_field_groups.proofs.Telling.{Taken, most}
use Rattle.rule_field_groups.proofs.conflicts.check_others.Given as goal

abbrev pub invariant-loop-other : goal.invariant-loop-other
invariant-loop-other l = record {
  told : Taken l.comparing.pass (judged_by l.comparing) (l.first ∷ l.others) l.first (take l.other-index l.others) l.fn.breaches l.breaches;
  counted : CountsUp l.fn.comparisons (most l.comparing.pass l.other-index) l.comparisons;
  within : l.other-index ≤ length l.others;
}
