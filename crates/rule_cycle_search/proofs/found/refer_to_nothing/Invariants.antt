use Rattle.std.proofs.Common.{◌≡◌, ◌<◌, ℕ, []}
use Rattle.rule_cycle_search.specs.Graph.{listed}
use Rattle.rule_cycle_search.proofs.found.refer_to_nothing.Given as goal

abbrev pub invariant-loop-targets : goal.invariant-loop-targets
invariant-loop-targets l = (n : ℕ) → n < l.targets-index → listed l.references n ≡ []
