use Rattle.tree_directives.specs.DirectiveTree.{input_value_tree}
use Rattle.tree_literals.proofs.in_names.Copies.{nodes-copies}
use Rattle.tree_type_members.proofs.field_definition.clone_signature.Goals as goal

pub returns : goal.returns
returns c = (nodes-copies input_value_tree _ _ c.in_ok-clone.ensures.cases.0, c.in_ok-clone-2.ensures.cases)
