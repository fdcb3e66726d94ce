use Rattle.std.proofs.Common.{◌≡◌, length}
use Rattle.document_typed_selections.specs.TypedTree.{typed_set_tree}
use Rattle.rule_field_sets.specs.Opened.{state_of, at_end, with_set}
use Rattle.rule_field_sets.proofs.found.Finding.pass_set.Given as goal

abbrev pub invariant-loop-ty : goal.invariant-loop-ty
invariant-loop-ty l = at_end (state_of l.self l.found) ≡ with_set (typed_set_tree l.set) (state_of l.fn.self l.fn.found)

abbrev pub decreases-loop-ty : goal.decreases-loop-ty
decreases-loop-ty l = length (state_of l.self l.found).left
