use Rattle.std.proofs.Common.{take}
use Rattle.rule_cycle_search.specs.Spread.{Reaches}
use Rattle.rule_cycle_search.proofs.spread.reach.Given as goal

abbrev pub invariant-loop-next : goal.invariant-loop-next
invariant-loop-next l = Reaches l.area.steps.now l.area.key l.step.center l.step.via (take l.next-index l.targets) l.fn.steps l.steps l.fn.reached.items l.reached.items
