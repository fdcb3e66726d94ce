-- Numbers of items: the indices of what they are equal to in a table.
use Rattle.std.specs.Prelude.{◌≡◌, ◌⊎◌, ◌++◌, ◌∷◌, [], ℕ, ◌<◌, Bool, true, List, map, length, get_or, slice_get, Some, Contains}
use Rattle.std.specs.List.{AllZip}

module _ {X : Type 0} where
  -- the item is equal to that at index `n` of the table
  abbrev pub IsNumberIn : (X → X → Bool) → List X → X → ℕ → Type 0
  IsNumberIn eq table x n = (k : X) × ((slice_get table n ≡ Some k) × (eq x k ≡ true))

  -- each item is equal to that at the index of its number
  abbrev pub AreNumbersIn : (X → X → Bool) → List X → List X → List ℕ → Type 0
  AreNumbersIn eq table items numbers = AllZip (IsNumberIn eq table) items numbers

  -- the new list is the old one, maybe with more after it
  abbrev pub Grows : List X → List X → Type 0
  Grows old new = (added : List X) × (new ≡ old ++ added)

  -- the new list has only members of the old one and of these
  abbrev pub AddsOnly : List X → List X → List X → Type 0
  AddsOnly old items new = (x : X) → Contains new x → Contains old x ⊎ Contains items x

  -- the members at these indices; that at index 0 for an index that the list does not have; none of an empty list
  abbrev pub at_places : List X → List ℕ → List X
  at_places [] places = []
  at_places (x ∷ xs) places = map (λ n. get_or (x ∷ xs) n x) places

  -- each of these is an index of the list
  abbrev pub AreWithin : List X → List ℕ → Type 0
  AreWithin table places = (n : ℕ) → Contains places n → n < length table
