use Rattle.std.proofs.Common.{◌≡◌, take}
use Rattle.std.specs.List.{flat_map}
use Rattle.rule_definitions.specs.Room.{◌⊕◌}
use Rattle.rule_fragments.specs.Broken.{brokens_of}
use Rattle.rule_fragments.specs.ListedBreaches.{always_deferred}
use Rattle.rule_selection_queries.specs.Lent.{lent_all}
use Rattle.rule_fragments.proofs.defer.check_all_always_reached.Given as goal

abbrev pub invariant-loop-selection : goal.invariant-loop-selection
invariant-loop-selection l = brokens_of l.breaches ≡ brokens_of l.fn.breaches ⊕ flat_map always_deferred (lent_all (take l.selection-index l.found))
