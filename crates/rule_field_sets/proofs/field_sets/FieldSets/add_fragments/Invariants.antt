use Rattle.std.proofs.Common.{length, ◌-◌}
use Rattle.rule_field_sets.specs.Nodes.{AreSets, SetsGrow, fragments_in, fragment_nodes}
use Rattle.rule_field_sets.proofs.field_sets.FieldSets.add_fragments.Given as goal

abbrev pub invariant-loop-fragment : goal.invariant-loop-fragment
invariant-loop-fragment l = record {
  sets : AreSets l.self;
  grown : SetsGrow l.fn.self l.self;
}

abbrev pub decreases-loop-fragment : goal.decreases-loop-fragment
decreases-loop-fragment l = length (fragments_in l.fn.self) - length (fragment_nodes l.self)
