-- Private: leads to the bytes that `put` writes. Bytes in parts.
use Rattle.std.specs.Prelude.{◌≡◌, ℕ, ◌+◌, ◌^◌, ◌<◌, ◌≤◌, List, ◌++◌, length, drop, flat_map, slice_range}
use Rattle.std.specs.List.{All}
use Rattle.checker_calls.specs.declared.parts.Parts.{Parts}

-- the part of these bytes in this range
abbrev pub part_of : List ℕ → ℕ × ℕ → List ℕ
part_of kept range = slice_range kept range.0 range.1

-- the range is within `len` bytes
abbrev pub IsWithin : ℕ → ℕ × ℕ → Type 0
IsWithin len range = (range.0 ≤ range.1) × (range.1 ≤ len)

-- the bytes of all parts, in order
abbrev pub parts_bytes : Parts → List ℕ
parts_bytes parts = flat_map (part_of parts.kept.items) parts.ranges.items ++ drop parts.last parts.kept.items

-- Each part is in what is kept, and the number of all bytes fits in 64 bits.
pub record AreSound (parts : Parts) : Type 0 where
  pub ranges : All (IsWithin (length parts.kept.items)) parts.ranges.items
  pub last : parts.last ≤ length parts.kept.items
  pub len : parts.len ≡ length (parts_bytes parts)
  pub fits : parts.len < 2 ^ 64

-- the text is in these bytes, from `start` on
abbrev pub LiesAt : List ℕ → List ℕ → ℕ → Type 0
LiesAt kept text start = (start + length text ≤ length kept) × (slice_range kept start (start + length text) ≡ text)

-- the text is added after the bytes
abbrev pub AddsBytes : Parts → List ℕ → Parts → Type 0
AddsBytes old text new = AreSound old → AreSound new × (parts_bytes new ≡ parts_bytes old ++ text)
