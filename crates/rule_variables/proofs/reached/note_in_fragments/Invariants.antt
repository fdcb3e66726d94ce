use Rattle.std.proofs.Common.{◌≡◌, drop, map}
use Rattle.rule_reach.specs.Reach.{fragment_of}
use Rattle.rule_reach.specs.NotedNames.{noted_names}
use Rattle.rule_variables.specs.UsedNames.{with_fragments}
use Rattle.rule_variables.proofs.reached.note_in_fragments.Given as goal

abbrev pub invariant-loop-index : goal.invariant-loop-index
invariant-loop-index l = with_fragments (noted_names l.fn.names) (map fragment_of l.reach.fragments.items) ≡ with_fragments (noted_names l.names) (map fragment_of (drop l.index l.reach.fragments.items))
