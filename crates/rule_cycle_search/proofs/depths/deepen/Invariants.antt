use Rattle.rule_cycle_search.specs.Graph.{is_of}
use Rattle.rule_cycle_search.specs.Depths.{AreCounted}
use Rattle.rule_cycle_search.proofs.depths.deepen.Given as goal

abbrev pub invariant-loop-node : goal.invariant-loop-node
invariant-loop-node l = AreCounted l.divided.graph.now (is_of l.divided.graph.now l.first) l.depths
