use Rattle.std.proofs.Common.{◌≡◌, map, take}
use Rattle.std.specs.Prelude.{IsUtf8}
use Rattle.std.specs.List.{All}
use Rattle.ffi_memory.proofs.texts.decode.Given as goal

abbrev pub invariant-loop-piece : goal.invariant-loop-piece
invariant-loop-piece l = record {
  same : map (λ t. t.now) l.texts.items ≡ map (λ t. t.now) (take l.piece-index l.fn.pieces);
  utf8 : All IsUtf8 (map (λ t. t.now) l.texts.items);
}
