use Rattle.std.proofs.Common.{◌≡◌, ◌≤◌, ◌⊎◌, ℕ, length, Contains}
use Rattle.list_interner.specs.NumberSet.{numbers_in}
use Rattle.rule_field_groups.proofs.Remembering.{numbers_of}
use Rattle.rule_field_groups.proofs.merge_state.MergeState.meet.Given as goal

abbrev pub invariant-loop-field : goal.invariant-loop-field
invariant-loop-field l = record {
  same : l.self ≡ record l.fn.self { met = l.self.met };
  only : (n : ℕ) → Contains (numbers_in l.self.met) n → Contains (numbers_in l.fn.self.met) n ⊎ Contains (numbers_of l.list) n;
  more : length (numbers_in l.fn.self.met) ≤ length (numbers_in l.self.met);
}
