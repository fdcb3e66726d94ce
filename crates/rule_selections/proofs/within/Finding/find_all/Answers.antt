use Rattle.std.proofs.Common.{◌∙◌}
use Rattle.rule_selections.proofs.SetsWithin.{step_on}
use Rattle.rule_selections.proofs.within.Finding.find_all.Goals as goal

pub loop-next-preserved : goal.loop-next-preserved
loop-next-preserved c =
    (step_on c.loop-next.self.waiting.items c.pop.new.self.items c.push_sets_below.new.waiting.items c.loop-next.self.sets.items c.push.new.self.items c.in-Some.next
    c.in-Some.ensures.items c.in_ok-push_sets_below.ensures c.in_ok-push.ensures.items).0 ∙ c.loop-next.invariant

pub loop-next-smaller : goal.loop-next-smaller
loop-next-smaller c =
    (step_on c.loop-next.self.waiting.items c.pop.new.self.items c.push_sets_below.new.waiting.items c.loop-next.self.sets.items c.push.new.self.items c.in-Some.next
    c.in-Some.ensures.items c.in_ok-push_sets_below.ensures c.in_ok-push.ensures.items).1
