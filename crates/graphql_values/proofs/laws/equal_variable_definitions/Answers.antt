use Rattle.std.proofs.Common.{rules}
use Rattle.tree_operations.proofs.OperationEquality.{variable_definition_eq-Decides}
use Rattle.graphql_values.proofs.laws.equal_variable_definitions.Goals as goal

pub returns : goal.returns
returns c = let h = variable_definition_eq-Decides c.args.a.now c.args.b.now in rw c.eq.ensures (search (rules, h))
