use Rattle.std.proofs.Common.{◌≡◌, length, fold}
use Rattle.graphql_names.specs.HashedText.{hashed_text}
use Rattle.graphql_names.proofs.text_hash.hash_text.Given as goal

abbrev pub invariant-pieces : goal.invariant-pieces
invariant-pieces g l = fold g.H.Hasher.write l.state (hashed_text l.left) ≡ fold g.H.Hasher.write l.fn.state (hashed_text l.fn.text)

abbrev pub decreases-pieces : goal.decreases-pieces
decreases-pieces g l = length l.left
