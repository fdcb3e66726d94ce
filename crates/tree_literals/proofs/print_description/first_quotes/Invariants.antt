use Rattle.std.proofs.Common.{◌≡◌, ℕ, ◌<◌, drop, false}
use Rattle.tree_literals.specs.EscapeRuns.{begins_with_quotes}
use Rattle.tree_literals.proofs.print_description.first_quotes.Given as goal

abbrev pub invariant-loop-i : goal.invariant-loop-i
invariant-loop-i l = (k : ℕ) → k < l.i → begins_with_quotes (drop k l.bytes) ≡ false
