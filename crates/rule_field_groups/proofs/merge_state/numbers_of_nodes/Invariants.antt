use Rattle.std.proofs.Common.{◌≡◌, map, take}
use Rattle.rule_field_sets.specs.Read.{set_content_at}
use Rattle.rule_field_groups.specs.Members.{meant_sets, read_sets}
use Rattle.rule_field_groups.proofs.merge_state.numbers_of_nodes.Given as goal

abbrev pub invariant-loop-node : goal.invariant-loop-node
invariant-loop-node l = map (set_content_at l.sets) l.numbers.items ≡ read_sets (meant_sets l.sets (take l.node-index l.nodes))
