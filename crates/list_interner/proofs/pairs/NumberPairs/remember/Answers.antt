use Rattle.std.proofs.Common.{set, sym}
use Rattle.list_interner.specs.NumberPairs.{pairs_kept}
use Rattle.list_interner.proofs.Rows.{pair_kept, pair_refused, rows_few}
use Rattle.list_interner.proofs.pairs.NumberPairs.remember.Goals as goal

pub returns-clause-keeps : goal.returns-clause-keeps
returns-clause-keeps c =
    pair_kept c.set.result (pairs_kept c.args.self.now) c.reach.new.self.rows.items c.args.one c.args.other c.max-high.result c.min-low.result c.index_mut.result.now c.set.new.self
    c.reach.ensures.same c.in_ok-reach.ensures.reached (sym c.index_mut.ensures.value) c.max-high.ensures c.min-low.ensures c.set.ensures.set

pub returns-clause-refused : goal.returns-clause-refused
returns-clause-refused c =
    pair_refused c.set.result (pairs_kept c.args.self.now) c.reach.new.self.rows.items c.args.one c.args.other c.max-high.result c.min-low.result c.index_mut.result.now c.set.new.self
    c.reach.ensures.same c.in_ok-reach.ensures.reached (sym c.index_mut.ensures.value) c.max-high.ensures c.min-low.ensures c.set.ensures.refused

pub returns-clause-few : goal.returns-clause-few
returns-clause-few c = rows_few (set c.reach.new.self.rows.items c.max-high.result c.set.new.self)

pub returns-in_err-reach-clause-few : goal.returns-in_err-reach-clause-few
returns-in_err-reach-clause-few c = rows_few c.reach.new.self.rows.items

pub returns-then-is_kept-clause-few : goal.returns-then-is_kept-clause-few
returns-then-is_kept-clause-few c = rows_few c.args.self.now.rows.items
