use Rattle.std.proofs.Common.{◌≡◌, length}
use Rattle.rule_cycle_search.specs.Ways.{Goes}
use Rattle.rule_cycle_search.proofs.ways.follow.Given as goal

abbrev pub invariant-loop : goal.invariant-loop
invariant-loop l = record {
  goes : Goes l.steps l.stops l.start l.way.items l.node;
  long : length l.way.items ≡ l.counter;
}
