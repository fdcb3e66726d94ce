use Rattle.std.proofs.Common.{rules}
use Rattle.tree_directives.specs.DirectiveTree.{argument_tree}
use Rattle.graphql_names.proofs.Copies.{nodes-copies}
use Rattle.document_typed_selections.proofs.clones.FieldClone.clone.Goals as goal

pub returns : goal.returns
returns c =
    let arguments = nodes-copies argument_tree _ _ c.in_ok-arguments.ensures.0.0 in
    let definition = c.in_ok-definition.ensures.0 in
    let alias = c.in_ok-definition.ensures.1 in
    let name = c.in_ok-definition.ensures.2 in
    let set = c.in_ok-arguments.ensures.2 in
    search (rules, arguments, set)
