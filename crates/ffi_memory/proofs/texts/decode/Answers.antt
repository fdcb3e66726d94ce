use Rattle.std.proofs.Common.{map, sym, ap, ◌∙◌, subst, List, ℕ, Bor}
use Rattle.std.specs.Prelude.{IsUtf8}
use Rattle.std.specs.List.{All}
use Rattle.ffi_memory.proofs.Cuts.{not_all_utf8, more_decoded, more_utf8}
use Rattle.ffi_memory.proofs.texts.decode.Goals as goal

pub returns-in-Err-clause-fault : goal.returns-in-Err-clause-fault
returns-in-Err-clause-fault c e all = not_all_utf8 c.args.pieces.now c.loop-piece.piece-index _ c.loop-piece-test.true c.in-Err.ensures.cases.0 all

pub loop-piece-preserved : goal.loop-piece-preserved
loop-piece-preserved c = record {
  same = ap (λ (ts : List (Bor (List ℕ))). map (λ t. t.now) ts) c.in_ok-push-in-Ok.ensures.items
      ∙ more_decoded c.args.pieces.now c.loop-piece.texts.items c.loop-piece.piece-index _ c.in-Ok.text c.loop-piece-test.true c.in-Ok.ensures.cases.0 c.loop-piece.invariant.same;
  utf8 = subst (λ (ts : List (Bor (List ℕ))). All IsUtf8 (map (λ t. t.now) ts)) (sym c.in_ok-push-in-Ok.ensures.items)
      (more_utf8 c.loop-piece.texts.items c.in-Ok.text (subst IsUtf8 (sym c.in-Ok.ensures.cases.0) c.in-Ok.ensures.cases.1) c.loop-piece.invariant.utf8);
}
