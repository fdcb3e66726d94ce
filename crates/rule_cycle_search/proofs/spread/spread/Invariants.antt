use Rattle.std.proofs.Common.{◌-◌, ◌+◌, length}
use Rattle.rule_cycle_search.specs.NodeSteps.{left}
use Rattle.rule_cycle_search.specs.Spread.{Spreading}
use Rattle.rule_cycle_search.proofs.spread.spread.Given as goal

abbrev pub invariant-loop-at : goal.invariant-loop-at
invariant-loop-at l = Spreading l.lists l.area.steps.now l.area.key l.center l.at l.fn.steps l.steps l.reached.items

abbrev pub decreases-loop-at : goal.decreases-loop-at
decreases-loop-at l = left l.center l.steps + (length l.reached.items - l.at)
