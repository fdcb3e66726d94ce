use Rattle.std.proofs.Common.{take}
use Rattle.rule_field_groups.specs.NodeWalk.{state_of, IsWalk}
use Rattle.rule_field_groups.proofs.node_walk.merged_list.Given as goal

abbrev pub invariant-loop-node : goal.invariant-loop-node
invariant-loop-node l = IsWalk l.sets (take l.node-index l.nodes) (state_of l.walk)
