use Rattle.std.proofs.Common.{rules}
use Rattle.tree_operations.specs.OperationTree.{variable_definition_tree}
use Rattle.graphql_names.proofs.Copies.{nodes-copies}
use Rattle.document_typed_operations.proofs.operation.OperationClone.clone.Goals as goal

pub returns : goal.returns
returns c =
    let variables = nodes-copies variable_definition_tree _ _ c.in_ok-name.ensures.1.0 in
    let name = c.in_ok-name.ensures.0 in
    let set = c.in_ok-name.ensures.3 in
    search (rules, variables, set)
