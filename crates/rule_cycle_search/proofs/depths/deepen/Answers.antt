use Rattle.std.proofs.Common.{ℕ, get_or, subst, sym, List}
use Rattle.rule_cycle_search.specs.Graph.{is_of}
use Rattle.rule_cycle_search.specs.Depths.{AreCounted}
use Rattle.rule_cycle_search.proofs.Counting.{counted_set, of_same}
use Rattle.rule_cycle_search.proofs.depths.deepen.Goals as goal
use Rattle.rule_cycle_search.proofs.depths.deepen.Goals.{then-node-depths, else-node-depths}

pub loop-node-preserved : goal.loop-node-preserved
loop-node-preserved c =
    let g = c.args.divided.now.graph.now in
    let node : ℕ = get_or c.args.order.now c.loop-node.node-index 0 in
    elim c.if-node-depths.branch [
      | then-node-depths w ↦
          subst (λ (l : List ℕ). AreCounted g (is_of g c.args.first) l) (sym w.depths-is)
          (counted_set g (is_of g c.args.first) c.loop-node.depths node w.depth_of.result w.if-node-depths.true c.loop-node.invariant (w.depth_of.ensures (is_of g c.args.first) (of_same g c.args.first node) c.loop-node.invariant))
      | else-node-depths w ↦ subst (λ (l : List ℕ). AreCounted g (is_of g c.args.first) l) (sym w.depths-is) c.loop-node.invariant
    ]
