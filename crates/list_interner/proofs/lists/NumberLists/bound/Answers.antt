use Rattle.list_interner.specs.NumberPairs.{pairs_kept}
use Rattle.list_interner.proofs.Kept.{all_under}
use Rattle.list_interner.proofs.lists.NumberLists.bound.Goals as goal

pub returns : goal.returns
returns c = let m = c.args.self.now in all_under (pairs_kept m.pairs) m.longer.keys m.above c.bound.result c.max.result c.max.ensures m.within c.bound.ensures
