use Rattle.std.proofs.Common.{take}
use Rattle.graphql_faults.specs.Words.{further_items}
use Rattle.graphql_faults.proofs.Writing.{HasShown}
use Rattle.graphql_faults.proofs.comma_separated.fmt_further.Given as goal

abbrev pub invariant-loop-item : goal.invariant-loop-item
invariant-loop-item g l = HasShown g.W.Write.write_str_gives l.initial.f (further_items g.T.Display.output (take l.item-index l.items)) l.f
