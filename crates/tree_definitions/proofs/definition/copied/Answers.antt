use Rattle.tree_definitions.proofs.definition.copied.Goals as goal

pub returns : goal.returns
returns g c = (c.in_ok-clone.field-0, (c.in_ok-clone.ensures.cases.0, (c.in_ok-clone.ensures.cases.1, c.from.ensures)))
