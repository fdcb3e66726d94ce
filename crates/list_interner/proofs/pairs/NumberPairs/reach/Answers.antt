use Rattle.std.proofs.Common.{◌∙◌, ap}
use Rattle.list_interner.specs.NumberPairs.{pairs_from}
use Rattle.list_interner.proofs.Rows.{rows_push}
use Rattle.list_interner.proofs.pairs.NumberPairs.reach.Goals as goal

pub loop-alloc-preserved : goal.loop-alloc-preserved
loop-alloc-preserved c = ap (pairs_from 0) c.in_ok-push.ensures.items ∙ rows_push 0 c.loop-alloc.self.rows.items c.new.result c.new.ensures ∙ c.loop-alloc.invariant
