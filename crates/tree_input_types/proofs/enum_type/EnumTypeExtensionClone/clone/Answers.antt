use Rattle.tree_type_members.specs.TypeSystemTree.{enum_value_tree}
use Rattle.tree_literals.proofs.in_names.Copies.{nodes-copies}
use Rattle.tree_input_types.proofs.enum_type.EnumTypeExtensionClone.clone.Goals as goal

pub returns : goal.returns
returns c = record {
  cases = λ i. record {
    name = c.in_ok-name.ensures.0 i;
    directives = c.in_ok-name.ensures.1 i;
    values = nodes-copies enum_value_tree _ _ c.in_ok-clone.ensures.cases.0 i;
  };
}
