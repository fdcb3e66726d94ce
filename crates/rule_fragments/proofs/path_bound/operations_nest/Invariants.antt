use Rattle.std.proofs.Common.{◌≡◌, false, take}
use Rattle.std.specs.List.{list_any}
use Rattle.rule_document_definitions.specs.Limits.{path_bound}
use Rattle.rule_fragments.specs.Nested.{deeper_in}
use Rattle.rule_fragments.specs.Rooted.{operation_set}
use Rattle.rule_fragments.proofs.path_bound.operations_nest.Given as goal

abbrev pub invariant-loop-operation : goal.invariant-loop-operation
invariant-loop-operation l = list_any (λ n. deeper_in path_bound (operation_set n)) (take l.operation-index l.operations) ≡ false
