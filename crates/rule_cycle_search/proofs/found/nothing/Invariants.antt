use Rattle.std.proofs.Common.{◌≡◌}
use Rattle.std.specs.Prelude.{replicate}
use Rattle.rule_cycle_search.specs.declared.found.Found.TheVariants.{Nothing}
use Rattle.rule_cycle_search.proofs.found.nothing.Given as goal

abbrev pub invariant-loop : goal.invariant-loop
invariant-loop l = l.all.items ≡ replicate l.counter Nothing
