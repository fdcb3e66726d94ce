use Rattle.std.proofs.Common.{◌≡◌, ◌-◌, inr, ap, ◌∙◌, arith, length}
use Rattle.std.specs.Prelude.{count_by}
use Rattle.std.proofs.lemmas.List.{take_all}
use Rattle.std.proofs.lemmas.Bool.{ltb-true}
use Rattle.rule_cycle_search.specs.Graph.{is_first}
use Rattle.rule_cycle_search.proofs.Chains.{count_both}
use Rattle.rule_cycle_search.proofs.found.is_long.Goals as goal

pub returns-else-firsts-bound : goal.returns-else-firsts-bound
returns-else-firsts-bound c = λ h.
    let g = c.args.graph.now in
    let all : c.loop-node.firsts ≡ count_by (is_first g) c.args.way.now = c.loop-node.invariant ∙ ap (count_by (is_first g)) (take_all c.loop-node.node-index c.args.way.now (omega arith)) in
    inr (omega (arith, all, ltb-true c.args.graph.now.bound (length c.args.way.now - c.loop-node.firsts) h, count_both (is_first g) c.args.way.now))
