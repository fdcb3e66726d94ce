use Rattle.graphql_faults.proofs.InBuckets.{IsNotFrom}
use Rattle.graphql_faults.proofs.buckets.Buckets.find.Given as goal

abbrev pub invariant-loop-end : goal.invariant-loop-end
invariant-loop-end g l = IsNotFrom g.T.Told.plain g.T.Told.bucket_of l.told.items (g.T.Told.plain l.one) l.end

abbrev pub decreases-loop-end : goal.decreases-loop-end
decreases-loop-end g l = l.end
