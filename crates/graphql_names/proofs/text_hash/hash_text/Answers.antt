use Rattle.std.proofs.Common.{arith}
use Rattle.graphql_names.proofs.Pieces.{fed_piece}
use Rattle.graphql_names.proofs.text_hash.hash_text.Goals as goal

pub pieces-preserved : goal.pieces-preserved
pieces-preserved g c = fed_piece g.H.Hasher.write _ _ _ c.pieces.left.now c.split_at.result.0.now c.split_at.result.1.now (omega (arith, c.pieces-test.true)) c.split_at.ensures.front c.split_at.ensures.back c.write.ensures c.pieces.invariant
