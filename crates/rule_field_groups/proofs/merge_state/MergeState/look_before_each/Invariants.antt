use Rattle.std.proofs.Common.{◌≡◌, take}
use Rattle.rule_field_sets.specs.Read.{set_at}
use Rattle.rule_field_groups.specs.Members.{meant_sets}
use Rattle.rule_field_groups.specs.MergeState.{kept_of, beside_of}
use Rattle.rule_field_groups.specs.Pairs.{with_each}
use Rattle.rule_field_groups.specs.Pairs.{Looks}
use Rattle.rule_field_groups.proofs.merge_state.MergeState.look_before_each.Given as goal

abbrev pub invariant-loop-node : goal.invariant-loop-node
invariant-loop-node l = record {
  looks : Looks (with_each (set_at l.sets l.one) (meant_sets l.sets (take l.node-index l.nodes))) (kept_of l.sets l.fn.self) (kept_of l.sets l.self);
  beside : beside_of l.sets l.self ≡ beside_of l.sets l.fn.self;
}
