use Rattle.std.proofs.Common.{◌≡◌}
use Rattle.std.specs.Prelude.{replicate}
use Rattle.rule_cycle_search.proofs.parts.no_steps.Given as goal

abbrev pub invariant-loop : goal.invariant-loop
invariant-loop l = l.steps.items ≡ replicate l.counter (record { center = l.nodes; via = l.nodes })
