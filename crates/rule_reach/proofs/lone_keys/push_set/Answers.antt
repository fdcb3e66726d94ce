use Rattle.std.proofs.Common.{◌∙◌, sym}
use Rattle.rule_reach.specs.Passed.{sets_read}
use Rattle.rule_reach.proofs.Walking.{no_set_added, set_added}
use Rattle.rule_reach.proofs.lone_keys.push_set.Goals as goal

pub returns-then-is_empty : goal.returns-then-is_empty
returns-then-is_empty c = no_set_added c.args.set.now (sets_read c.args.next.now.items) (sym c.is_empty.ensures ∙ c.if-is_empty.true)

pub returns : goal.returns
returns c = set_added _ c.args.next.now.items c.push.new.self.items c.in_ok-push.ensures.items
