use Rattle.std.proofs.Common.{◌≡◌, drop}
use Rattle.tree_literals.specs.StringLayout.{is_blank}
use Rattle.tree_literals.proofs.print_description.is_blank.Given as goal

abbrev pub invariant-loop-byte : goal.invariant-loop-byte
invariant-loop-byte l = is_blank l.line ≡ is_blank (drop l.byte-index l.line)
