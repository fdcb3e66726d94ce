use Rattle.std.proofs.Common.{◌≡◌, ℕ, Some}
use Rattle.std.specs.Prelude.{slice_get}
use Rattle.rule_cycle_search.proofs.depths.find_depths.Given as goal

abbrev pub invariant-loop : goal.invariant-loop
invariant-loop l = (n many : ℕ) → slice_get l.depths.items n ≡ Some many → many ≡ 0
