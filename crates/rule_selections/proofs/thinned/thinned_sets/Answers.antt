use Rattle.std.proofs.Common.{arith}
use Rattle.rule_selections.specs.Telling.{terms_of}
use Rattle.rule_selections.proofs.SetsWithin.{none_thinned, next_thinned, all_thinned}
use Rattle.rule_selections.proofs.thinned.thinned_sets.Goals as goal

pub loop-next-init : goal.loop-next-init
loop-next-init c = none_thinned (terms_of c.args.common.now) c.args.sets.items c.new-thin.result.items

pub loop-next-preserved : goal.loop-next-preserved
loop-next-preserved c =
    next_thinned (terms_of c.args.common.now) c.args.sets.items c.loop-next.sets.items c.pop.new.self.items c.in-Some.next c.loop-next.thin.items c.thinned_set.new.thin.items c.push.new.self.items c.in_ok-set.set
    c.in-Some.ensures.items c.in_ok-set.ensures c.in_ok-push.ensures.items c.loop-next.invariant

pub returns : goal.returns
returns c = all_thinned (terms_of c.args.common.now) c.args.sets.items c.loop-next.sets.items c.loop-next.thin.items (omega (arith, c.in_default.ensures.cases.0)) c.loop-next.invariant
