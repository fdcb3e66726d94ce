use Rattle.schema_writing.proofs.definition_by.write_placed.Goals as goal

pub returns : goal.returns
returns g c = (c.in_ok-node.node, c.from.result, (c.in_ok-node.ensures.content, c.in_ok-node.ensures.place, c.from.ensures, c.in_ok-push.ensures.items))
