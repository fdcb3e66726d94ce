use Rattle.std.proofs.Common.{rules, ◌+◌, take}
use Rattle.std.proofs.lemmas.List.{take_more}
use Rattle.graphql_faults.proofs.Writing.{shown_more}
use Rattle.graphql_faults.proofs.comma_separated.fmt_further.Goals as goal

pub loop-item-preserved : goal.loop-item-preserved
loop-item-preserved g c =
    shown_more g.T.Display.output g.W.Write.write_str_gives c.args.f.now c.loop-item.f c.fmt_further_item.new.f c.fmt_further_item.result
    (take c.loop-item.item-index c.args.items.now) (take (c.loop-item.item-index + 1) c.args.items.now) c.item-item.result
    (search (rules, take_more)) (search rules) c.loop-item.invariant c.fmt_further_item.ensures
