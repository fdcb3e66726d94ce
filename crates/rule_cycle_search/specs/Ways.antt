-- Private: leads to `CyclesBreak` and `RecursiveFragmentDefinitionAt`. Paths along the steps of a part.
use Rattle.std.specs.Prelude.{◌≡◌, ℕ, List, [], ◌∷◌, ◌++◌, ◌+◌, Contains, length, reverse, Option, None, Some, Vec}
use Rattle.std.specs.Global.{Global}
use Rattle.rule_cycle_search.specs.declared.steps.Step.{Step}
use Rattle.rule_cycle_search.specs.NodeSteps.{via_at}

module _ (steps : List Step) (stops : List ℕ) where
  -- steps lead from n through these nodes, none of which is a stop, to m
  abbrev pub Goes : ℕ → List ℕ → ℕ → Type 0
  Goes n [] m = n ≡ m
  Goes n (x ∷ rest) m = (x ≡ n) × ((Contains stops x → ⊥) × Goes (via_at steps x) rest m)

  -- the path to the first stop; or None, and there is a path of `bound + bound + 1` nodes without a stop, so more than the bound are of one kind
  abbrev pub Follows : ℕ → ℕ → Option (Vec ℕ Global) → Type 0
  Follows bound n None = (way : List ℕ) × ((m : ℕ) × (Goes n way m × (length way ≡ bound + bound + 1)))
  Follows bound n (Some found) = (way : List ℕ) × ((m : ℕ) × (Goes n way m × (Contains stops m × (found.items ≡ way ++ m ∷ []))))

-- the first path up to a node m of the second, then the second in reverse
abbrev pub Joins : List ℕ → List ℕ → List ℕ → Type 0
Joins ahead following way = (front : List ℕ) × ((m : ℕ) × ((rest : List ℕ) × ((ahead ≡ front ++ m ∷ rest) × (Contains following m × (way ≡ front ++ reverse following)))))
