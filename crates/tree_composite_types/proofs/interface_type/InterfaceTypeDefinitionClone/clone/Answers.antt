use Rattle.tree_composite_types.proofs.interface_type.InterfaceTypeDefinitionClone.clone.Goals as goal

pub returns : goal.returns
returns c = record {
  cases = (
    c.in_ok-description.ensures.0,
    λ i. record {
      name = c.in_ok-description.ensures.1.0 i;
      directives = c.in_ok-description.ensures.1.1 i;
      interfaces = c.in_ok-implements_interfaces.ensures.0 i;
      fields = c.in_ok-implements_interfaces.ensures.1 i;
    },
  );
}
