use Rattle.std.proofs.Common.{◌≡◌, ℕ, ◌<◌, get_or, false}
use Rattle.tree_literals.specs.EscapeRuns.{must_escape}
use Rattle.tree_literals.proofs.print_string.first_escape.Given as goal

abbrev pub invariant-loop-i : goal.invariant-loop-i
invariant-loop-i l = (k : ℕ) → k < l.i → must_escape (get_or l.bytes k 0) ≡ false
