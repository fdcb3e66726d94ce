use Rattle.rule_field_sets.specs.Nodes.{set_nodes}
use Rattle.rule_field_sets.proofs.NoNodes.{item_at}
use Rattle.rule_field_sets.proofs.field_sets.FieldSets.node.Goals as goal

pub returns : goal.returns
returns c = item_at (set_nodes c.args.self.now) c.args.node c.index.result.now c.requires c.index.ensures
