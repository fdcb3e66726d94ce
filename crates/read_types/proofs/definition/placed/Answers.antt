use Rattle.read_types.proofs.definition.placed.Goals as goal

pub returns : goal.returns
returns g c = (c.in_ok-new_parsed.field-0, (c.in_ok-new_parsed.ensures.content, (c.in_ok-new_parsed.ensures.place, c.from.ensures)))
