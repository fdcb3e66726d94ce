use Rattle.std.proofs.Common.{map, take, length, ◌≤◌}
use Rattle.graphql_faults.specs.InBuckets.{AreRight}
use Rattle.graphql_faults.proofs.buckets.Buckets.of.Given as goal

abbrev pub invariant-loop-index : goal.invariant-loop-index
invariant-loop-index g l = AreRight (map (λ one. g.T.Told.bucket_of (g.T.Told.plain one)) (take l.index l.told.items)) l.buckets × (l.index ≤ length l.told.items)
