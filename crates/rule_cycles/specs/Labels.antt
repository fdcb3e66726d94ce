-- Private: leads to `CyclesBreak` and `RecursiveFragmentDefinitionAt`. References by number, each with its label.
use Rattle.std.specs.Prelude.{ℕ, ◌==◌, List, [], ◌∷◌, ◌++◌, map, find, Option, option_to_list}
use Rattle.std.specs.Option.{option_map}

abbrev pub Labelled : Type 0 → Type 0
Labelled L = List (ℕ × L)

abbrev pub targets : {L : Type 0} → Labelled L → List ℕ
targets rs = map (λ r. r.0) rs

module _ {L : Type 0} where
  -- the label of the first of these references to that number
  abbrev pub label : Labelled L → ℕ → Option L
  label rs to = option_map (λ r. r.1) (find (λ r. r.0 == to) rs)

  -- what `by` gives for each step of a path, where it gives something
  abbrev pub along : (ℕ → ℕ → Option L) → ℕ → List ℕ → List L
  along by from [] = []
  along by from (to ∷ rest) = option_to_list (by from to) ++ along by to rest

  -- for each step of a path, the label of the first reference to the next node
  abbrev pub labels : (ℕ → Labelled L) → ℕ → List ℕ → List L
  labels refs from path = along (λ i. label (refs i)) from path
