-- Private: leads to `AddsNew`. Where the faults of a list are, by their buckets.
use Rattle.std.specs.Prelude.{◌≡◌, ◌≢◌, ◌<◌, ◌≤◌, ℕ, suc, List, length, get_or, slice_get, Some}
use Rattle.graphql_faults.specs.declared.buckets.Buckets.{Buckets}

-- `end` is one more than the greatest index below `n` at which the list has `b`, or 0 if there is none
pub record IsEndOf (bs : List ℕ) (b n end : ℕ) : Type 0 where
  pub within : end ≤ n
  pub last : (k : ℕ) → end ≤ k → k < n → slice_get bs k ≢ Some b
  pub there : (k : ℕ) → end ≡ suc k → slice_get bs k ≡ Some b

-- these are right for faults whose buckets are `bs`, in order
pub record AreRight (bs : List ℕ) (x : Buckets) : Type 0 where
  pub sized : length x.ends.items ≡ 256
  pub counted : length x.earlier.items ≡ length bs
  pub ends : (b : ℕ) → b < 256 → IsEndOf bs b (length bs) (get_or x.ends.items b 0)
  pub earlier : (k b : ℕ) → slice_get bs k ≡ Some b → IsEndOf bs b k (get_or x.earlier.items k 0)
