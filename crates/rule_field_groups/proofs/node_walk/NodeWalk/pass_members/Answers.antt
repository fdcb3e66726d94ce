use Rattle.std.proofs.Common.{[], ◌<◌, length, subst, arith}
use Rattle.std.proofs.lemmas.List.{take_all}
use Rattle.rule_field_groups.specs.NodeWalk.{state_of, Passes}
use Rattle.rule_field_groups.proofs.Walking.{passes_none, members_step}
use Rattle.rule_field_groups.proofs.node_walk.NodeWalk.pass_members.Goals as goal

pub loop-member-init : goal.loop-member-init
loop-member-init c = passes_none (state_of c.args.self.now)

pub loop-member-preserved : goal.loop-member-preserved
loop-member-preserved c =
    let i = c.loop-member.member-index in
    let h : i < length c.args.members.now = omega arith in
    members_step c.args.members.now i c.member-item.result (state_of c.args.self.now) (state_of c.loop-member.self) (state_of c.pass_member.new.self) h c.member-item.is c.in_ok-pass_member.ensures c.loop-member.invariant

pub returns : goal.returns
returns c = subst (λ l. Passes l [] (state_of c.args.self.now) (state_of c.loop-member.self)) (take_all c.loop-member.member-index c.args.members.now c.loop-member-test.false) c.loop-member.invariant
