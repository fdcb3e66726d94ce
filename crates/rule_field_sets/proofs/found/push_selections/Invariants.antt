use Rattle.std.proofs.Common.{◌≡◌, ◌++◌, drop}
use Rattle.rule_field_sets.specs.Opened.{left_of}
use Rattle.rule_field_sets.proofs.Opening.{those_on}
use Rattle.rule_field_sets.proofs.found.push_selections.Given as goal

abbrev pub invariant-loop-index : goal.invariant-loop-index
invariant-loop-index l = left_of l.left.items ≡ those_on l.set.ty (drop l.index l.set.selections.items) ++ left_of l.fn.left.items
