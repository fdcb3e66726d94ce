use Rattle.std.proofs.Common.{◌∙◌}
use Rattle.list_interner.proofs.Rows.{rows_below}
use Rattle.list_interner.proofs.pairs.NumberPairs.bound.Goals as goal

pub returns : goal.returns
returns c = rows_below c.args.self.now.rows.items c.len.result (c.len.ensures ∙ c.args.self.now.rows.ok.0)
