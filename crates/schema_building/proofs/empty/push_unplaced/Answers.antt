use Rattle.schema_building.proofs.empty.push_unplaced.Goals as goal

pub returns : goal.returns
returns g c = (c.in_ok-node.node, c.from.result, (c.in_ok-node.ensures.content, c.in_ok-node.ensures.place, c.from.ensures, c.in_ok-push.ensures.items))
