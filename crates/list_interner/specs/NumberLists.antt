-- Lists of numbers that are remembered, whatever the order of their numbers.
use Rattle.std.specs.Prelude.{◌≡◌, ◌↔◌, ◌⊎◌, ◌++◌, ◌∷◌, [], ℕ, Bool, true, false, ◌==◌, cond, List, map, length, slice_get, Contains}
use Rattle.std.specs.Option.{option_map_or}
use Rattle.std.specs.List.Sorted.{IsPermutation}
use Rattle.rule_cycle_search.specs.Paths.{HasNoRepeat}
use Rattle.list_interner.specs.declared.lists.NumberLists.{NumberLists}
use Rattle.list_interner.specs.NumberPairs.{pairs_kept}

-- the same members
abbrev pub HaveSame : {X : Type 0} → List X → List X → Type 0
HaveSame {X} xs ys = (x : X) → Contains xs x ↔ Contains ys x

-- the length of a list of more than two members; 0 for a shorter one
abbrev pub length_above_two : {X : Type 0} → List X → ℕ
length_above_two [] = 0
length_above_two (x ∷ []) = 0
length_above_two (x ∷ y ∷ []) = 0
length_above_two (x ∷ y ∷ z ∷ rest) = length (x ∷ y ∷ z ∷ rest)

-- the numbers of a pair as a list: one number, if both are equal
abbrev pub list_of : ℕ × ℕ → List ℕ
list_of (a, b) = cond (a == b) (a ∷ []) (a ∷ b ∷ [])

-- the lists that are remembered: those of one or two numbers, which are pairs, and then the longer ones as they are stored
abbrev pub lists_kept : NumberLists → List (List ℕ)
lists_kept m = map list_of (pairs_kept m.pairs) ++ map (λ v. v.items) m.longer.keys

-- the longer list with this index; an empty list if there is none
abbrev pub list_at : NumberLists → ℕ → List ℕ
list_at m place = option_map_or (λ v. v.items) (slice_get m.longer.keys place) []

-- the list that is kept for these numbers: it has the same members, and if nothing is in the numbers twice, it is a permutation of
-- them
abbrev pub IsKeptFor : List ℕ → List ℕ → Type 0
IsKeptFor numbers list = HaveSame numbers list × (HasNoRepeat numbers → IsPermutation numbers list)

-- a new list is added, at any index, and none of the others has the same members, if no number is in either list twice; of a list that
-- is not new, an old list is kept for its numbers, or it has none; then nothing changes
abbrev pub Keeps : List (List ℕ) → List ℕ → Bool → List (List ℕ) → Type 0
Keeps old numbers true new = ((list : List ℕ) → Contains old list → HasNoRepeat list → HasNoRepeat numbers → HaveSame list numbers → ⊥)
    × ((kept : List ℕ) × (IsKeptFor numbers kept × IsPermutation (kept ∷ old) new))
Keeps old numbers false new = ((numbers ≡ []) ⊎ ((list : List ℕ) × (Contains old list × IsKeptFor numbers list))) × (new ≡ old)
