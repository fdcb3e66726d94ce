use Rattle.std.proofs.Common.{◌≡◌, drop}
use Rattle.tree_literals.specs.StringLayout.{has_byte}
use Rattle.tree_literals.proofs.print_description.has_byte.Given as goal

abbrev pub invariant-loop-byte : goal.invariant-loop-byte
invariant-loop-byte l = has_byte l.wanted l.text ≡ has_byte l.wanted (drop l.byte-index l.text)
