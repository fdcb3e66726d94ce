use Rattle.std.proofs.Common.{◌≡◌, false}
use Rattle.document_typed_operations.specs.Lending.{selections_are_over, selections_left, fields_left, items_at_most}
use Rattle.document_typed_operations.proofs.fields.next_field.Given as goal

abbrev pub invariant-loop-selection : goal.invariant-loop-selection
invariant-loop-selection l = (fields_left l.selections ≡ fields_left l.initial.selections) × (selections_are_over l.selections ≡ false → selections_are_over l.initial.selections ≡ false)

abbrev pub decreases-loop-selection : goal.decreases-loop-selection
decreases-loop-selection l = items_at_most (selections_are_over l.selections) (selections_left l.selections)
