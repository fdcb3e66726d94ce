use Rattle.std.proofs.Common.{◌∙◌, sym}
use Rattle.list_interner.proofs.Sets.{of_below, in_below}
use Rattle.list_interner.proofs.set.NumberSet.contains.Goals as goal

pub returns : goal.returns
returns c =
    let s = c.args.self.now in
    let n = c.args.number in
    (λ e. in_below s.bits s.bound n s.below (sym c.has.ensures ∙ e), λ k. c.has.ensures ∙ (of_below s.bits s.bound n k).0)
