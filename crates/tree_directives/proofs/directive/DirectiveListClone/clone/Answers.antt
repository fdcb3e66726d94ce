use Rattle.tree_directives.specs.DirectiveTree.{directive_tree}
use Rattle.tree_literals.proofs.in_names.Copies.{nodes-copies}
use Rattle.tree_directives.proofs.directive.DirectiveListClone.clone.Goals as goal

pub returns : goal.returns
returns c = record { cases = nodes-copies directive_tree _ _ c.in_ok-clone.ensures.cases.0 }
