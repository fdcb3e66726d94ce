use Rattle.std.proofs.Common.{◌≡◌, ℕ, take, false}
use Rattle.std.specs.Prelude.{Contains}
use Rattle.rule_cycle_search.specs.NodeSteps.{is_in}
use Rattle.rule_cycle_search.proofs.found.first_in.Given as goal

abbrev pub invariant-loop-node : goal.invariant-loop-node
invariant-loop-node l = (n : ℕ) → Contains (take l.node-index l.nodes) n → is_in l.steps l.center n ≡ false
