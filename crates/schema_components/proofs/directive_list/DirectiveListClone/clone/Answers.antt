use Rattle.tree_operations.specs.DirectiveTree.{directive_tree}
use Rattle.schema_components.proofs.Copies.{components-copies}
use Rattle.schema_components.proofs.directive_list.DirectiveListClone.clone.Goals as goal

pub returns : goal.returns
returns c = record { cases = components-copies directive_tree _ _ c.in_ok-clone.ensures.cases.0 }
