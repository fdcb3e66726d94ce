use Rattle.std.proofs.Common.{map, take, length, ◌<◌, arith}
use Rattle.graphql_faults.proofs.InBuckets.{right_of_next, right_of_all}
use Rattle.graphql_faults.proofs.buckets.Buckets.of.Goals as goal

pub loop-index-init : goal.loop-index-init
loop-index-init g c = (c.in_ok-buckets.ensures, omega arith)

pub loop-index-preserved : goal.loop-index-preserved
loop-index-preserved g c =
    let at = c.loop-index in
    let items = c.args.told.now.items in
    let inside : at.index < length items = omega (arith, c.loop-index-test.true, c.len-index-end.ensures, c.args.told.now.ok.0) in (
      right_of_next (λ one. g.T.Told.bucket_of (g.T.Told.plain one)) items at.index c.index.result.now c.bucket.result c.push.new.self inside c.index.ensures c.bucket.ensures.bucket (c.in_ok-push.ensures (map (λ one. g.T.Told.bucket_of (g.T.Told.plain one)) (take at.index items)) at.invariant.0),
      omega (arith, inside),
    )

pub push-requires : goal.push-requires
push-requires g c = omega (arith, c.loop-index.invariant.0.sized, c.bucket.ensures.within)

pub returns : goal.returns
returns g c =
    let at = c.loop-index in
    let items = c.args.told.now.items in
    right_of_all (λ one. g.T.Told.bucket_of (g.T.Told.plain one)) items at.index at.buckets (omega (arith, at.invariant.1, c.loop-index-test.false, c.len-index-end.ensures, c.args.told.now.ok.0)) at.invariant.0
