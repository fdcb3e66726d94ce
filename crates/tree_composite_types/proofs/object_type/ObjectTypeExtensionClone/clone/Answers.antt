use Rattle.tree_composite_types.proofs.object_type.ObjectTypeExtensionClone.clone.Goals as goal

pub returns : goal.returns
returns c = record {
  cases = λ i. record {
    name = c.in_ok-name.ensures.0 i;
    directives = c.in_ok-name.ensures.1 i;
    interfaces = c.in_ok-implements_interfaces.ensures.0 i;
    fields = c.in_ok-implements_interfaces.ensures.1 i;
  };
}
