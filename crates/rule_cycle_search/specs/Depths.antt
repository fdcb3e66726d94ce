-- Private: leads to `CyclesBreak` and `RecursiveFragmentDefinitionAt`. How many nodes of a kind are on a path.
use Rattle.std.specs.Prelude.{◌≡◌, ◌≤◌, ℕ, Bool, List, [], ◌∷◌, Contains, slice_get, count_by, Some}
use Rattle.rule_cycle_search.specs.declared.graph.Graph.{Graph}
use Rattle.rule_cycle_search.specs.Graph.{references}

-- R holds of each number and the next
abbrev pub Chain : (ℕ → ℕ → Type 0) → List ℕ → Type 0
Chain R [] = Unit {0}
Chain R (x ∷ []) = Unit {0}
Chain R (x ∷ y ∷ rest) = R x y × Chain R (y ∷ rest)

-- no number is in the list twice
abbrev pub Apart : List ℕ → Type 0
Apart [] = Unit {0}
Apart (x ∷ xs) = (Contains xs x → ⊥) × Apart xs

module _ (g : Graph) (kind : ℕ → Bool) where
  -- a path without repetition from the node has at least so many nodes of that kind
  abbrev pub HasWay : ℕ → ℕ → Type 0
  HasWay n many = (rest : List ℕ) × (Chain (λ x y. Contains (references g x) y) (n ∷ rest) × (Apart (n ∷ rest) × (many ≤ count_by kind (n ∷ rest))))

  abbrev pub AreCounted : List ℕ → Type 0
  AreCounted depths = (n many : ℕ) → slice_get depths n ≡ Some many → HasWay n many
