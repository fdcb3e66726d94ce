use Rattle.std.proofs.Common.{◌≡◌, false, take}
use Rattle.std.specs.List.{list_any}
use Rattle.rule_document_definitions.specs.Limits.{path_bound}
use Rattle.rule_fragments.specs.Nested.{deeper_in}
use Rattle.rule_fragments.specs.Rooted.{fragment_set}
use Rattle.rule_fragments.proofs.path_bound.fragments_nest.Given as goal

abbrev pub invariant-loop-fragment : goal.invariant-loop-fragment
invariant-loop-fragment l = list_any (λ n. deeper_in path_bound (fragment_set n)) (take l.fragment-index l.fragments) ≡ false
