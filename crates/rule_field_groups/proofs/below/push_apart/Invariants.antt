use Rattle.std.proofs.Common.{◌≡◌, ◌++◌, [], take}
use Rattle.list_interner.specs.NumberRows.{rows_of}
use Rattle.rule_field_groups.specs.Under.{joined, twos_of}
use Rattle.rule_field_groups.proofs.below.push_apart.Given as goal

abbrev pub invariant-loop-node : goal.invariant-loop-node
invariant-loop-node l = rows_of l.lists ≡ (rows_of l.fn.lists ++ joined [] l.further) ++ twos_of l.first (take l.node-index l.further)
