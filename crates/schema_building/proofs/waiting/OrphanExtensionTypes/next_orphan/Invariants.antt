use Rattle.std.proofs.Common.{◌≡◌, length}
use Rattle.schema_building.specs.Waiting.{left_kinds}
use Rattle.schema_building.proofs.waiting.OrphanExtensionTypes.next_orphan.Given as goal

abbrev pub invariant-loop-name : goal.invariant-loop-name
invariant-loop-name l = left_kinds l.self ≡ left_kinds l.initial.self

abbrev pub decreases-loop-name : goal.decreases-loop-name
decreases-loop-name l = length l.self.extended
