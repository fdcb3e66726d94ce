use Rattle.std.proofs.Common.{◌≡◌, take}
use Rattle.list_interner.proofs.number_rows.NumberRows.read.Given as goal

abbrev pub invariant-loop-number : goal.invariant-loop-number
invariant-loop-number l = l.numbers.items ≡ take l.number-index l.number-items
