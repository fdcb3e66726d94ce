-- Private: leads to `CyclesBreak` and `RecursiveFragmentDefinitionAt`. What is found of the roots.
use Rattle.std.specs.Prelude.{◌≡◌, ℕ, List, length, slice_get, Some}
use Rattle.rule_cycle_search.specs.declared.graph.Graph.{Graph}
use Rattle.rule_cycle_search.specs.declared.found.Found.{Found}
use Rattle.rule_cycle_search.specs.declared.found.Found.TheVariants.{Nothing, Cycle, Deep}
use Rattle.rule_cycle_search.specs.Graph.{IsCycleThrough, IsDeep}

module _ (g : Graph) where
  -- what is found of the root is true
  abbrev pub Finds : ℕ → Found → Type 0
  Finds root Nothing = (path : List ℕ) → IsCycleThrough g root path → ⊥
  Finds root (Cycle path) = IsCycleThrough g root path.items
  Finds root Deep = IsDeep g root

  -- what is found of each root, in order, is true
  pub record AreFound (all : List Found) : Type 0 where
    pub long : length all ≡ g.roots
    pub each : (root : ℕ) (found : Found) → slice_get all root ≡ Some found → Finds root found
