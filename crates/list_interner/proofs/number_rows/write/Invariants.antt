use Rattle.std.proofs.Common.{◌≡◌, ◌++◌, take}
use Rattle.list_interner.proofs.number_rows.write.Given as goal

abbrev pub invariant-loop-number : goal.invariant-loop-number
invariant-loop-number l = l.numbers.items ≡ l.fn.numbers.items ++ take l.number-index l.more
