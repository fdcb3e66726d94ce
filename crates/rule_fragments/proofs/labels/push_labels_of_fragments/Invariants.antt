use Rattle.std.proofs.Common.{◌≡◌, ◌++◌, take}
use Rattle.std.specs.List.{flat_map}
use Rattle.rule_fragments.specs.Labels.{values_meant, labels_in}
use Rattle.rule_fragments.specs.Rooted.{fragment_set}
use Rattle.rule_fragments.proofs.labels.push_labels_of_fragments.Given as goal

abbrev pub invariant-loop-fragment : goal.invariant-loop-fragment
invariant-loop-fragment l = values_meant l.found.items ≡ values_meant l.fn.found.items ++ flat_map (λ n. labels_in (fragment_set n)) (take l.fragment-index l.fragments)
