use Rattle.std.proofs.Common.{◌≡◌, ℕ, ◌+◌, ◌-◌, ◌<◌, ◌≤◌, length, get_or, false}
use Rattle.tree_literals.specs.EscapeRuns.{must_escape}
use Rattle.tree_literals.proofs.print_string.plain_front.Given as goal

abbrev pub invariant-sixteens : goal.invariant-sixteens
invariant-sixteens l = record {
  within : l.front ≤ length l.fn.bytes;
  plain : (k : ℕ) → k < l.front → must_escape (get_or l.fn.bytes k 0) ≡ false;
}

abbrev pub decreases-sixteens : goal.decreases-sixteens
decreases-sixteens l = length l.fn.bytes - l.front
