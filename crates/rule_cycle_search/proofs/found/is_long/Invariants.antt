use Rattle.std.proofs.Common.{◌≡◌, take}
use Rattle.std.specs.Prelude.{count_by}
use Rattle.rule_cycle_search.specs.Graph.{is_first}
use Rattle.rule_cycle_search.proofs.found.is_long.Given as goal

abbrev pub invariant-loop-node : goal.invariant-loop-node
invariant-loop-node l = l.firsts ≡ count_by (is_first l.graph) (take l.node-index l.way)
