use Rattle.std.proofs.Common.{◌≡◌, ◌++◌, ℕ, List, length}
use Rattle.std.specs.Prelude.{Contains}
use Rattle.rule_cycle_search.proofs.ways.join.Given as goal

abbrev pub invariant-loop-node : goal.invariant-loop-node
invariant-loop-node l = (rest : List ℕ) × ((l.fn.ahead.items ≡ l.ahead.items ++ rest) × ((n : ℕ) × (Contains l.ahead.items n × Contains l.following n)))

abbrev pub decreases-loop-node : goal.decreases-loop-node
decreases-loop-node l = length l.ahead.items
