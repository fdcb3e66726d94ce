use Rattle.std.proofs.Common.{rules}
use Rattle.tree_directives.specs.DirectiveTree.{input_value_tree}
use Rattle.tree_literals.proofs.in_names.Copies.{nodes-copies, equal-copies}
use Rattle.tree_directives.proofs.directive.DirectiveDefinitionClone.clone.Goals as goal

pub returns : goal.returns
returns c =
    let arguments = nodes-copies input_value_tree _ _ c.in_ok-description.ensures.2.0 in
    let locations = equal-copies _ _ c.in_ok-description.ensures.4.0 in
    search (rules, arguments, locations)
