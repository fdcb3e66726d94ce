use Rattle.std.proofs.Common.{[], take}
use Rattle.rule_field_groups.specs.NodeWalk.{state_of, Passes}
use Rattle.rule_field_groups.proofs.node_walk.NodeWalk.note_spreads.Given as goal

abbrev pub invariant-loop-place : goal.invariant-loop-place
invariant-loop-place l = Passes [] (take l.place-index l.spreads) (state_of l.fn.self) (state_of l.self)
