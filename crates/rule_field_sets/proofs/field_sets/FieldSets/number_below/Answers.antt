use Rattle.rule_field_sets.proofs.Passing.{within_is, some_set_below, no_set_below}
use Rattle.rule_field_sets.proofs.field_sets.FieldSets.number_below.Goals as goal

pub returns-in-Some : goal.returns-in-Some
returns-in-Some c = some_set_below c.args.self.now.nodes.items c.args.below c.in-Some.node c.index.result.now c.in-Some.is c.requires c.index.ensures

pub returns-in-None : goal.returns-in-None
returns-in-None c = no_set_below c.args.self.now.nodes.items c.args.below c.in-None.is
