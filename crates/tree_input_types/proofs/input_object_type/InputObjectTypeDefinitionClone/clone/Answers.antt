use Rattle.tree_type_members.specs.in_directives.DirectiveTree.{input_value_tree}
use Rattle.tree_literals.proofs.in_names.Copies.{nodes-copies}
use Rattle.tree_input_types.proofs.input_object_type.InputObjectTypeDefinitionClone.clone.Goals as goal

pub returns : goal.returns
returns c = record {
  cases = (
    c.in_ok-description.ensures.0,
    λ i. record {
      name = c.in_ok-description.ensures.1.0 i;
      directives = c.in_ok-description.ensures.1.1 i;
      fields = nodes-copies input_value_tree _ _ c.in_ok-clone.ensures.cases.0 i;
    },
  );
}
