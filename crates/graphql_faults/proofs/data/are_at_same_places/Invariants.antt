use Rattle.std.proofs.Common.{◌≡◌, ◌<◌, ℕ, slice_index_or, None}
use Rattle.graphql_faults.specs.TracePlaces.{trace_places}
use Rattle.graphql_faults.proofs.data.are_at_same_places.Given as goal

abbrev pub invariant-loop-index : goal.invariant-loop-index
invariant-loop-index l = (k : ℕ) → k < l.index → slice_index_or (trace_places l.one) k None ≡ slice_index_or (trace_places l.other) k None
