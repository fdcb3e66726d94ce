-- Pairs of numbers that are remembered, whatever the order of the two numbers.
use Rattle.std.specs.Prelude.{◌≡◌, ◌++◌, ◌∷◌, [], ℕ, ◌+◌, ◌*◌, ◌≤◌, ◌<◌, Bool, true, false, List, map, length, Contains}
use Rattle.std.specs.List.{filter, range_with_len}
use Rattle.std.specs.List.Sorted.{IsPermutation}
use Rattle.list_interner.specs.declared.bits.Bits.{Bits}
use Rattle.list_interner.specs.declared.pairs.NumberPairs.{NumberPairs}
use Rattle.list_interner.specs.Bits.{has}

-- the pairs of a number with those numbers of its row that are not greater
abbrev pub pairs_of_row : ℕ → Bits → List (ℕ × ℕ)
pairs_of_row high row = map (λ low. (high, low)) (filter (has row) (range_with_len 0 (high + 1)))

-- the pairs of these rows: the first row is that of the number `high`, the next one that of the next number
abbrev pub pairs_from : ℕ → List Bits → List (ℕ × ℕ)
pairs_from high [] = []
pairs_from high (row ∷ rows) = pairs_of_row high row ++ pairs_from (high + 1) rows

-- the pairs that are remembered, each with the greater number first
abbrev pub pairs_kept : NumberPairs → List (ℕ × ℕ)
pairs_kept p = pairs_from 0 p.rows.items

-- a new pair is added, at any index; a pair that is not new is one of the old ones, and nothing changes
abbrev pub KeepsPair : List (ℕ × ℕ) → ℕ × ℕ → Bool → List (ℕ × ℕ) → Type 0
KeepsPair old pair true new = (Contains old pair → ⊥) × IsPermutation (pair ∷ old) new
KeepsPair old pair false new = Contains old pair × (new ≡ old)

-- there are no more pairs than unordered pairs of numbers below `m`, for any `m` above all numbers in them
abbrev pub AreFew : List (ℕ × ℕ) → Type 0
AreFew pairs = (m : ℕ) → ((p : ℕ × ℕ) → Contains pairs p → (p.0 < m) × (p.1 < m)) → 2 * length pairs ≤ m * (m + 1)
