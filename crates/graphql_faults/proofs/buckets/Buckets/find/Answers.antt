use Rattle.std.proofs.Common.{subst, arith}
use Rattle.graphql_faults.proofs.InBuckets.{IsNotFrom, begun, stepped, in_none}
use Rattle.graphql_faults.proofs.buckets.Buckets.find.Goals as goal

pub loop-end-init : goal.loop-end-init
loop-end-init g c = begun g.T.Told.plain g.T.Told.bucket_of c.args.told.now.items (g.T.Told.plain c.args.one.now) c.args.self.now c.bucket.result c.index-end.result.now c.requires c.bucket.ensures.within c.bucket.ensures.bucket c.index-end.ensures

pub loop-end-preserved : goal.loop-end-preserved
loop-end-preserved g c =
    (stepped g.T.Told.plain g.T.Told.bucket_of c.args.told.now.items (g.T.Told.plain c.args.one.now) c.args.self.now c.loop-end.end c.index-end-in-loop-end.result.now c.index.result.now c.is_same.result c.requires
    c.loop-end-test.true c.loop-end.invariant c.index.ensures c.is_same.ensures c.if-is_same.false c.index-end-in-loop-end.ensures).0

pub loop-end-smaller : goal.loop-end-smaller
loop-end-smaller g c =
    (stepped g.T.Told.plain g.T.Told.bucket_of c.args.told.now.items (g.T.Told.plain c.args.one.now) c.args.self.now c.loop-end.end c.index-end-in-loop-end.result.now c.index.result.now c.is_same.result c.requires
    c.loop-end-test.true c.loop-end.invariant c.index.ensures c.is_same.ensures c.if-is_same.false c.index-end-in-loop-end.ensures).1

pub returns-clause-not_found : goal.returns-clause-not_found
returns-clause-not_found g c = in_none g.T.Told.plain g.T.Told.bucket_of c.args.told.now.items (g.T.Told.plain c.args.one.now) (subst (IsNotFrom g.T.Told.plain g.T.Told.bucket_of c.args.told.now.items (g.T.Told.plain c.args.one.now)) (omega (arith, c.loop-end-test.false)) c.loop-end.invariant)
