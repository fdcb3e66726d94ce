use Rattle.std.proofs.Common.{ℕ, Bool}
use Rattle.rule_cycle_search.specs.Depths.{AreCounted}
use Rattle.rule_cycle_search.proofs.Counting.{HasMost}
use Rattle.rule_cycle_search.proofs.depths.depth_of.Given as goal

abbrev pub invariant-loop-next : goal.invariant-loop-next
invariant-loop-next l = (kind : ℕ → Bool) → AreCounted l.divided.graph.now kind l.depths → HasMost l.divided.graph.now kind l.node l.from.items l.step.center l.most
