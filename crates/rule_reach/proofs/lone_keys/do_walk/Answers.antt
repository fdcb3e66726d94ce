use Rattle.rule_reach.proofs.lone_keys.do_walk.Goals as goal

pub returns : goal.returns
returns c = c.pass_levels.ensures
