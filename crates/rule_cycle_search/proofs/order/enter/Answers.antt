use Rattle.std.proofs.Common.{ap, length, arith, false}
use Rattle.std.proofs.lemmas.List.{length_push}
use Rattle.rule_cycle_search.proofs.Entering.{entered_less}
use Rattle.rule_cycle_search.proofs.order.enter.Goals as goal

pub returns : goal.returns
returns c = omega (
  arith,
  entered_less c.args.entered.now c.args.references.now c.args.node false c.if-node-entered.false c.if-entered-node.false,
  ap length c.in_ok-push.ensures.items,
  length_push c.args.pending.now.items,
  ap length c.listed-next-items.ensures,
  c.loop-next.invariant,
)
