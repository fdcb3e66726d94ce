use Rattle.std.proofs.Common.{◌≡◌, ◌++◌, length, map, Contains}
use Rattle.std.specs.Vec.Iter.{into_iter_items, into_iter_len}
use Rattle.graphql_faults.specs.Added.{AddsNew}
use Rattle.graphql_faults.specs.InBuckets.{AreRight}
use Rattle.graphql_faults.proofs.add.add_new.Given as goal

abbrev pub invariant-loop-one : goal.invariant-loop-one
invariant-loop-one g l =
    AddsNew (map g.T.Told.plain l.fn.told.items) (map g.T.Told.plain l.yielded) (map g.T.Told.plain l.told.items)
    × ((x : g.T.Told.Plain) → Contains (map g.T.Told.plain l.yielded) x → Contains (map g.T.Told.plain l.told.items) x)
    × AreRight (map (λ one. g.T.Told.bucket_of (g.T.Told.plain one)) l.told.items) l.buckets
    × (l.fn.more.items ≡ l.yielded ++ into_iter_items l.one-iterator)
    × (into_iter_len l.one-iterator ≡ length (into_iter_items l.one-iterator))
