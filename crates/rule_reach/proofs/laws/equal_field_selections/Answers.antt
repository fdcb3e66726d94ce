use Rattle.std.proofs.Common.{rules}
use Rattle.rule_reach.proofs.ContentEquality.{selection_eq-Decides}
use Rattle.rule_reach.proofs.laws.equal_field_selections.Goals as goal

pub returns : goal.returns
returns c = let h = selection_eq-Decides c.args.a.now c.args.b.now in rw c.eq.ensures (search (rules, h))
