use Rattle.std.proofs.Common.{◌≡◌, true, map, take}
use Rattle.rule_reach.specs.Reach.{member_of, meant_fragments}
use Rattle.rule_fragments.specs.Applied.{all_are_on_their_types}
use Rattle.rule_fragments.proofs.applications.all_are_on_their_types.Given as goal

abbrev pub invariant-loop-parent : goal.invariant-loop-parent
invariant-loop-parent l = all_are_on_their_types (meant_fragments l.fragments) (map member_of (take l.parent-index l.parent-items)) ≡ true
