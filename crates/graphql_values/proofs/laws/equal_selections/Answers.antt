use Rattle.std.proofs.Common.{rules}
use Rattle.tree_operations.proofs.SelectionEquality.{selection_eq-Decides}
use Rattle.graphql_values.proofs.laws.equal_selections.Goals as goal

pub returns : goal.returns
returns c = let h = selection_eq-Decides c.args.a.now c.args.b.now in rw c.eq.ensures (search (rules, h))
