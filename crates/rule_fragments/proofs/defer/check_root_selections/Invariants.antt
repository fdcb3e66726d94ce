use Rattle.std.proofs.Common.{◌≡◌, take}
use Rattle.std.specs.List.{flat_map}
use Rattle.rule_definitions.specs.Room.{◌⊕◌}
use Rattle.rule_selection_queries.specs.in_reach.in_typed_operations.DocumentView.{operation_meant}
use Rattle.rule_fragments.specs.Broken.{brokens_of}
use Rattle.rule_fragments.specs.ListedBreaches.{fragment_deferred}
use Rattle.rule_selection_queries.specs.Lent.{lent_all}
use Rattle.rule_fragments.proofs.defer.check_root_selections.Given as goal

abbrev pub invariant-loop-selection : goal.invariant-loop-selection
invariant-loop-selection l = brokens_of l.breaches ≡ brokens_of l.fn.breaches ⊕ flat_map (fragment_deferred (operation_meant l.operation)) (lent_all (take l.selection-index l.roots))
