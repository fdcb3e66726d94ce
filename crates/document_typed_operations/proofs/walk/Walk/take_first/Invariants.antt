use Rattle.std.proofs.Common.{◌≡◌, length}
use Rattle.document_typed_operations.specs.WalkView.{walk_state}
use Rattle.document_typed_operations.proofs.walk.Walk.take_first.Given as goal

abbrev pub invariant-loop-first : goal.invariant-loop-first
invariant-loop-first l = walk_state l.self ≡ walk_state l.initial.self

abbrev pub decreases-loop-first : goal.decreases-loop-first
decreases-loop-first l = length l.self.outer.items
