use Rattle.std.proofs.Common.{◌-◌, ◌^◌, List, ℕ, take}
use Rattle.rule_field_groups.specs.NodeWalk.{state_of, IsWalkOver}
use Rattle.rule_field_groups.proofs.node_walk.NodeWalk.pass_fragments.Given as goal

abbrev pub invariant-loop-self : goal.invariant-loop-self
invariant-loop-self l = (nodes : List ℕ) → IsWalkOver l.sets nodes (take l.fn.entered (state_of l.fn.self).spread) (state_of l.fn.self) → IsWalkOver l.sets nodes (take l.entered (state_of l.self).spread) (state_of l.self)

abbrev pub decreases-loop-self : goal.decreases-loop-self
decreases-loop-self l = 2 ^ 64 - l.entered
