use Rattle.std.proofs.Common.{rules, arith}
use Rattle.report_forms.proofs.Orders.{ranks_more, all_ranks}
use Rattle.report_forms.proofs.order.order_of.Goals as goal

pub loop-index-preserved : goal.loop-index-preserved
loop-index-preserved g c =
    ranks_more c.args.told.now c.loop-index.index c.index-told-index.result c.loop-index.ranks.items c.push.new.self.items c.rank_of.result (search rules) c.index-told-index.is
    c.loop-index.invariant c.in_ok-push.ensures.items c.rank_of.ensures

pub returns : goal.returns
returns g c = record {
  all = all_ranks c.args.told.now c.loop-index.index c.loop-index.ranks.items c.sort.new.self.items c.loop-index.invariant (omega arith) c.in_ok-sort.ensures.permutation;
  sorted = c.in_ok-sort.ensures.sorted;
}
