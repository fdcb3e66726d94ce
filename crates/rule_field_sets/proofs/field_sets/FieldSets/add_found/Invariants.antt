use Rattle.std.proofs.Common.{length}
use Rattle.rule_field_sets.specs.Nodes.{AreSets}
use Rattle.rule_field_sets.specs.Added.{NodesGrow}
use Rattle.rule_field_sets.proofs.Putting.{AreLeft}
use Rattle.rule_field_sets.proofs.field_sets.FieldSets.add_found.Given as goal

abbrev pub invariant-loop-next : goal.invariant-loop-next
invariant-loop-next l = record {
  sets : AreSets l.self;
  grown : NodesGrow l.fn.self l.self;
  left : AreLeft l.self.nodes.items l.last l.fn.found.items l.found.items;
}

abbrev pub decreases-loop-next : goal.decreases-loop-next
decreases-loop-next l = length l.found.items
