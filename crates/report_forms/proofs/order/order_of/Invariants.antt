use Rattle.std.proofs.Common.{◌≡◌, map, take}
use Rattle.report_forms.specs.Order.{ranks_from}
use Rattle.report_forms.proofs.order.order_of.Given as goal

abbrev pub invariant-loop-index : goal.invariant-loop-index
invariant-loop-index g l = l.ranks.items ≡ ranks_from 0 (map (λ t. t.0) (take l.index l.told))
