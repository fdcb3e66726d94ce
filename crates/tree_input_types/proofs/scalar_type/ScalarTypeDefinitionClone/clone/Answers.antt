use Rattle.tree_input_types.proofs.scalar_type.ScalarTypeDefinitionClone.clone.Goals as goal

pub returns : goal.returns
returns c = record {
  cases = (
    c.in_ok-description.ensures.0,
    λ i. record {
      name = c.in_ok-description.ensures.1.0 i;
      directives = c.in_ok-description.ensures.1.1 i;
    },
  );
}
