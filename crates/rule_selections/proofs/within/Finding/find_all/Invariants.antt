use Rattle.std.proofs.Common.{◌≡◌, ◌++◌, length}
use Rattle.std.specs.Prelude.{flat_map}
use Rattle.rule_selections.specs.Within.{within, typed_sets, waiting_sets}
use Rattle.rule_selections.proofs.within.Finding.find_all.Given as goal

abbrev pub invariant-loop-next : goal.invariant-loop-next
invariant-loop-next l = typed_sets l.self.sets.items ++ flat_map within (waiting_sets l.self.waiting.items) ≡ typed_sets l.fn.self.sets.items ++ flat_map within (waiting_sets l.fn.self.waiting.items)

abbrev pub decreases-loop-next : goal.decreases-loop-next
decreases-loop-next l = length (flat_map within (waiting_sets l.self.waiting.items))
