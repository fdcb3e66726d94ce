use Rattle.std.proofs.Common.{◌≡◌, length}
use Rattle.document_typed_selections.specs.OwnFields.{left_fields}
use Rattle.document_typed_selections.proofs.fields.FieldsIterator.next.Given as goal

abbrev pub invariant-loop-first : goal.invariant-loop-first
invariant-loop-first l = left_fields l.self ≡ left_fields l.initial.self

abbrev pub decreases-loop-first : goal.decreases-loop-first
decreases-loop-first l = length l.self.rest.now
