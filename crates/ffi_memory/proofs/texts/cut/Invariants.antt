use Rattle.std.proofs.Common.{drop, map}
use Rattle.ffi_memory.proofs.Cuts.{Going}
use Rattle.ffi_memory.proofs.texts.cut.Given as goal

abbrev pub invariant-loop-end : goal.invariant-loop-end
invariant-loop-end l = Going l.fn.bytes l.fn.ends l.start l.rest (drop l.end-index l.fn.ends) (map (λ t. t.now) l.texts.items)
