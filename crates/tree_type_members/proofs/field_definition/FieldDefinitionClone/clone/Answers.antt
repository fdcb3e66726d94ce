use Rattle.tree_type_members.proofs.field_definition.FieldDefinitionClone.clone.Goals as goal

pub returns : goal.returns
returns c = record {
  cases = λ i. record {
    description = c.in_ok-description.ensures.0 i;
    name = c.in_ok-description.ensures.1.0 i;
    arguments = c.in_ok-arguments.ensures.0 i;
    ty = c.in_ok-arguments.ensures.1 i;
    directives = c.in_ok-description.ensures.1.1 i;
  };
}
