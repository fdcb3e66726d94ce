use Rattle.std.proofs.Common.{[], take}
use Rattle.rule_field_groups.specs.NodeWalk.{state_of, Passes}
use Rattle.rule_field_groups.proofs.node_walk.NodeWalk.pass_members.Given as goal

abbrev pub invariant-loop-member : goal.invariant-loop-member
invariant-loop-member l = Passes (take l.member-index l.members) [] (state_of l.fn.self) (state_of l.self)
