use Rattle.std.proofs.Common.{◌≡◌, ◌++◌, take}
use Rattle.list_interner.specs.NumberRows.{rows_of}
use Rattle.rule_field_groups.specs.Under.{each_with}
use Rattle.rule_field_groups.proofs.below.push_each_with.Given as goal

abbrev pub invariant-loop-node : goal.invariant-loop-node
invariant-loop-node l = rows_of l.lists ≡ rows_of l.fn.lists ++ each_with (take l.node-index l.nodes) l.last
