use Rattle.std.proofs.Common.{rules}
use Rattle.tree_operations.proofs.DirectiveEquality.{argument_eq-Decides}
use Rattle.graphql_values.proofs.laws.equal_arguments.Goals as goal

pub returns : goal.returns
returns c = let h = argument_eq-Decides c.args.a.now c.args.b.now in rw c.eq.ensures (search (rules, h))
