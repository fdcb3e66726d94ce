use Rattle.std.proofs.Common.{◌+◌, length}
use Rattle.rule_cycle_search.specs.Order.{to_enter}
use Rattle.rule_cycle_search.proofs.order.finishing_order.Given as goal

abbrev pub decreases-loop-visit : goal.decreases-loop-visit
decreases-loop-visit l = to_enter l.entered.items l.references + length l.pending.items
