use Rattle.list_interner.proofs.Sets.{of_below}
use Rattle.list_interner.proofs.set.NumberSet.bound.Goals as goal

pub returns : goal.returns
returns c = λ n k. let s = c.args.self.now in (of_below s.bits s.bound n k).1
