use Rattle.std.proofs.Common.{map, sym, subst}
use Rattle.ffi_memory.specs.Cut.{IsCut}
use Rattle.ffi_memory.proofs.Cuts.{decoding_fault}
use Rattle.ffi_memory.proofs.texts.texts_at.Goals as goal

pub returns-clause-fault : goal.returns-clause-fault
returns-clause-fault c =
    decoding_fault c.args.bytes.now c.args.ends.now (map (λ t. t.now) c.deref.result.now) c.decode.result
    (subst (λ pieces. IsCut c.args.bytes.now c.args.ends.now (map (λ t. t.now) pieces)) (sym c.deref.ensures.value) c.in_ok-pieces.ensures.texts) c.decode.ensures.fault c.decode.ensures.order
