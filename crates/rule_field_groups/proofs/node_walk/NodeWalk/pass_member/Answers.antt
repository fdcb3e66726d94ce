use Rattle.std.proofs.Common.{refl, subst}
use Rattle.list_interner.specs.NumberSet.{numbers_in, PutsIn}
use Rattle.rule_field_groups.specs.NodeWalk.{state_of}
use Rattle.rule_field_groups.proofs.Walking.{member_there, member_added}
use Rattle.rule_field_groups.proofs.node_walk.NodeWalk.pass_member.Goals as goal

pub returns-then-not-is_new : goal.returns-then-not-is_new
returns-then-not-is_new c =
    let w = c.args.self.now in
    member_there c.args.member (state_of w) (record { members = w.members.items; numbers = numbers_in c.insert.new.self; spread = w.spread.keys; is_whole = w.is_whole })
    (subst (λ b. PutsIn (numbers_in w.numbers) c.args.member.number b (numbers_in c.insert.new.self)) c.if-not-is_new.true c.in_ok-is_new.ensures.put) refl refl refl

pub returns : goal.returns
returns c =
    let w = c.args.self.now in
    let v = c.count_fresh.new.self in
    member_added c.args.member (state_of w) (record { members = w.members.items; numbers = numbers_in c.insert.new.self; spread = w.spread.keys; is_whole = w.is_whole })
    (state_of v) (record { members = c.push.new.self.items; numbers = numbers_in v.numbers; spread = v.spread.keys; is_whole = v.is_whole })
    (subst (λ b. PutsIn (numbers_in w.numbers) c.args.member.number b (numbers_in c.insert.new.self)) c.if-not-is_new.false c.in_ok-is_new.ensures.put) refl refl refl
    c.count_fresh.ensures c.in_ok-push.ensures.items refl refl refl
