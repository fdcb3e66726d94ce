use Rattle.std.proofs.Common.{◌≡◌, ◌+◌, length}
use Rattle.rule_cycle_search.proofs.order.enter.Given as goal

abbrev pub invariant-loop-next : goal.invariant-loop-next
invariant-loop-next l = length l.pending.items ≡ length l.initial.pending.items + l.next-index
