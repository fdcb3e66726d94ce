use Rattle.std.proofs.Common.{◌≡◌, drop, map}
use Rattle.rule_fragments.specs.in_reach.NotedNames.{noted_names}
use Rattle.rule_fragments.specs.in_reach.Reach.{fragment_of}
use Rattle.graphql_validation.specs.Operations.{with_fragments}
use Rattle.graphql_validation.proofs.found.note_fragments.Given as goal

abbrev pub invariant-loop-index : goal.invariant-loop-index
invariant-loop-index l = with_fragments (noted_names l.fn.names) (map fragment_of l.reach.fragments.items) ≡ with_fragments (noted_names l.names) (map fragment_of (drop l.index l.reach.fragments.items))
