use Rattle.std.proofs.Common.{rules}
use Rattle.tree_directives.specs.DirectiveTree.{argument_tree}
use Rattle.tree_literals.proofs.in_names.Copies.{nodes-copies}
use Rattle.tree_directives.proofs.directive.DirectiveClone.clone.Goals as goal

pub returns : goal.returns
returns c =
    let arguments = nodes-copies argument_tree _ _ c.in_ok-clone-2.ensures.cases.0 in
    search (rules, arguments)
