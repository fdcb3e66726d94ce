use Rattle.std.proofs.Common.{◌≡◌, ◌++◌, drop}
use Rattle.rule_selections.specs.Within.{waiting_sets}
use Rattle.rule_selections.proofs.SetsWithin.{sets_of}
use Rattle.rule_selections.proofs.within.push_sets_below.Given as goal

abbrev pub invariant-loop-index : goal.invariant-loop-index
invariant-loop-index l = waiting_sets l.waiting.items ≡ sets_of (drop l.index l.set.selections.items) ++ waiting_sets l.fn.waiting.items
