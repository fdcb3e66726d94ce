-- How many faults one call tells.
use Rattle.std.specs.Prelude.{ℕ, ltb, List, [], ◌∷◌, ◌++◌, length, if◌then◌else◌}

-- the greatest number of faults that one call tells
abbrev pub most_told : ℕ
most_told = 1000

module _ {A : Type 0} where
  infixl 60 ◌⊕◌
  -- the list with the fault at the end, if there were fewer than 1,000
  abbrev pub told_one : List A → A → List A
  told_one told fault = if ltb (length told) most_told then told ++ fault ∷ [] else told

  -- the list with each of these at the end in turn, while it has fewer than 1,000
  abbrev pub ◌⊕◌ : List A → List A → List A
  told ⊕ [] = told
  told ⊕ (fault ∷ more) = told_one told fault ⊕ more
