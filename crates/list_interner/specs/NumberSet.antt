-- Sets of numbers.
use Rattle.std.specs.Prelude.{◌≡◌, ◌∷◌, ℕ, Bool, true, false, List, Contains}
use Rattle.std.specs.List.Sorted.{IsPermutation}
use Rattle.list_interner.specs.Bits.{bits_below}
use Rattle.list_interner.specs.declared.set.NumberSet.{NumberSet}

-- the numbers that are in the set, each once, in ascending order
abbrev pub numbers_in : NumberSet → List ℕ
numbers_in s = bits_below s.bits s.bound

-- a new number is added, at any index; a number that is not new is one of the old ones, and nothing changes
abbrev pub PutsIn : List ℕ → ℕ → Bool → List ℕ → Type 0
PutsIn old n true new = (Contains old n → ⊥) × IsPermutation (n ∷ old) new
PutsIn old n false new = Contains old n × (new ≡ old)
