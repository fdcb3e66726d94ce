use Rattle.std.proofs.Common.{◌≡◌, ℕ, length, Some}
use Rattle.std.specs.Prelude.{slice_get}
use Rattle.rule_cycle_search.specs.declared.found.Found.{Found}
use Rattle.rule_cycle_search.specs.Found.{Finds}
use Rattle.rule_cycle_search.proofs.found.find_cycles.Given as goal

abbrev pub invariant-loop-root : goal.invariant-loop-root
invariant-loop-root l = record {
  long : length l.all.items ≡ l.root;
  each : (root : ℕ) (found : Found) → slice_get l.all.items root ≡ Some found → Finds l.graph root found;
}
