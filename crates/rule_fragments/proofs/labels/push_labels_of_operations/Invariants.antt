use Rattle.std.proofs.Common.{◌≡◌, ◌++◌, take}
use Rattle.std.specs.List.{flat_map}
use Rattle.rule_fragments.specs.Labels.{values_meant, labels_in}
use Rattle.rule_fragments.specs.Rooted.{operation_set}
use Rattle.rule_fragments.proofs.labels.push_labels_of_operations.Given as goal

abbrev pub invariant-loop-operation : goal.invariant-loop-operation
invariant-loop-operation l = values_meant l.found.items ≡ values_meant l.fn.found.items ++ flat_map (λ n. labels_in (operation_set n)) (take l.operation-index l.operations)
