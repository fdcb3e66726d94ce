use Rattle.std.proofs.Common.{refl, inl, inr}
use Rattle.rule_field_groups.proofs.Sets.{number_there, number_new}
use Rattle.rule_field_groups.proofs.below.SetsBelow.add.Goals as goal

pub returns-then-not-branch : goal.returns-then-not-branch
returns-then-not-branch c =
    let there = number_there c.args.self.now.numbers.keys c.insert.new.self.keys c.args.number _ c.in_ok-insert.ensures.added c.in_ok-insert.ensures.keys c.if-not-branch.true in
    inl (there.0, (there.1, refl))

pub returns : goal.returns
returns c =
    let new = number_new c.args.self.now.numbers.keys c.insert.new.self.keys c.args.number _ c.in_ok-insert.ensures.added c.in_ok-insert.ensures.keys c.if-not-branch.false in
    inr (new.0, (new.1, c.in_ok-push.ensures.items))
