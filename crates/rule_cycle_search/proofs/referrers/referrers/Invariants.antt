use Rattle.std.proofs.Common.{◌≡◌, ℕ, length}
use Rattle.std.specs.Prelude.{Contains}
use Rattle.rule_cycle_search.specs.Graph.{listed}
use Rattle.rule_cycle_search.specs.Referrers.{AreReferrersBelow}
use Rattle.rule_cycle_search.proofs.referrers.referrers.Given as goal

abbrev pub invariant-loop : goal.invariant-loop
invariant-loop l = record {
  long : length l.referrers.items ≡ l.index;
  none : (e n : ℕ) → Contains (listed l.referrers.items e) n → ⊥;
}

abbrev pub invariant-loop-node : goal.invariant-loop-node
invariant-loop-node l = AreReferrersBelow l.node l.references l.referrers.items
