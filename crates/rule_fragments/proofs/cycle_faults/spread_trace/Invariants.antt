use Rattle.std.proofs.Common.{◌≡◌, ◌++◌, map, drop}
use Rattle.rule_cycles.specs.Labels.{along}
use Rattle.rule_fragments.specs.SpreadViews.{spread_tree, spread_between}
use Rattle.rule_fragments.proofs.cycle_faults.spread_trace.Given as goal

abbrev pub invariant-loop-to : goal.invariant-loop-to
invariant-loop-to l = map spread_tree l.trace.items ++ along (spread_between l.references) l.from (drop l.to-index l.path) ≡ along (spread_between l.references) l.root l.path
