use Rattle.std.proofs.Common.{map, take}
use Rattle.rule_field_groups.specs.Members.{fields_of, meant_sets}
use Rattle.rule_field_groups.specs.Under.{sets_in, JoinsEach}
use Rattle.rule_field_groups.proofs.below.push_own_lists.Given as goal

abbrev pub invariant-loop-own : goal.invariant-loop-own
invariant-loop-own l = JoinsEach (meant_sets l.sets l.shared.nodes.items) (map (λ o. fields_of o.items) (take l.own-index l.owns)) (sets_in l.sets l.fn.lists) (sets_in l.sets l.lists)
