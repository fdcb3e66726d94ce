use Rattle.std.proofs.Common.{◌≡◌, ℕ, ◌+◌, ◌-◌, length}
use Rattle.document_typed_operations.specs.Left.{WalkState, left_members}
use Rattle.document_typed_operations.specs.WalkView.{walk_state}
use Rattle.document_typed_operations.proofs.walk.Walk.next_member.Given as goal

-- how many steps a walk takes at most
abbrev pub steps_left : {P : Type 0} → WalkState P → ℕ
steps_left w = length (left_members w) + (length w.fragments - w.entered)

abbrev pub invariant-loop-ty : goal.invariant-loop-ty
invariant-loop-ty l = left_members (walk_state l.self) ≡ left_members (walk_state l.initial.self)

abbrev pub decreases-loop-ty : goal.decreases-loop-ty
decreases-loop-ty l = steps_left (walk_state l.self)
