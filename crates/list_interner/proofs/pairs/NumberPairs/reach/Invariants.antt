use Rattle.std.proofs.Common.{◌≡◌, ◌+◌, ◌-◌, vec_len}
use Rattle.list_interner.specs.NumberPairs.{pairs_kept}
use Rattle.list_interner.proofs.pairs.NumberPairs.reach.Given as goal

abbrev pub invariant-loop-alloc : goal.invariant-loop-alloc
invariant-loop-alloc l = pairs_kept l.self ≡ pairs_kept l.fn.self

abbrev pub decreases-loop-alloc : goal.decreases-loop-alloc
decreases-loop-alloc l = l.number + 1 - vec_len l.self.rows
