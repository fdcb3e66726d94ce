use Rattle.tree_input_types.proofs.scalar_type.ScalarTypeExtensionClone.clone.Goals as goal

pub returns : goal.returns
returns c = record {
  cases = λ i. record {
    name = c.in_ok-name.ensures.0 i;
    directives = c.in_ok-name.ensures.1 i;
  };
}
