use Rattle.rule_field_groups.proofs.Standing.{stand_kept}
use Rattle.rule_field_groups.proofs.merge_state.MergeState.stand_together.Goals as goal

pub returns : goal.returns
returns c is w are all so = stand_kept w are c.args.self.now.lists c.in-Some.place c.args.ones.now c.args.others.now all so (c.has_all.ensures c.if-not-has_all.false) (c.has_all-2.ensures is)
