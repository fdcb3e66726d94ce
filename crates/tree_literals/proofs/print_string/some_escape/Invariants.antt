use Rattle.std.proofs.Common.{◌≡◌, ◌||◌, drop}
use Rattle.std.specs.List.{list_any}
use Rattle.tree_literals.specs.EscapeRuns.{must_escape}
use Rattle.tree_literals.proofs.print_string.some_escape.Given as goal

abbrev pub invariant-loop-byte : goal.invariant-loop-byte
invariant-loop-byte l = list_any must_escape l.bytes ≡ (l.found || list_any must_escape (drop l.byte-index l.bytes))
