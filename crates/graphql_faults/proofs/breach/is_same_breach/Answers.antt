use Rattle.std.proofs.Common.{rules}
use Rattle.graphql_faults.proofs.BreachEquality.{breach_eq-Decides}
use Rattle.graphql_faults.proofs.breach.is_same_breach.Goals as goal

pub returns : goal.returns
returns c = let h = breach_eq-Decides c.args.one.now c.args.other.now in rw c.eq.ensures (search (rules, h))
