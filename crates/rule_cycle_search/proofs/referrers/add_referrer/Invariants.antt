use Rattle.std.proofs.Common.{take}
use Rattle.rule_cycle_search.specs.Referrers.{AddsReferrer}
use Rattle.rule_cycle_search.proofs.referrers.add_referrer.Given as goal

abbrev pub invariant-loop-target : goal.invariant-loop-target
invariant-loop-target l = AddsReferrer l.node (take l.target-index l.targets) l.fn.referrers l.referrers
