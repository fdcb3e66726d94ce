-- Private: leads to `CyclesBreak` and `RecursiveFragmentDefinitionAt`. What is told of the roots of a graph, one after the other.
use Rattle.std.specs.Prelude.{◌≡◌, ℕ, ◌<◌, List, [], Contains, ◌⊎◌}
use Rattle.fault_data.specs.Room.{◌⊕◌}
use Rattle.rule_cycle_search.specs.declared.graph.Graph.{Graph}
use Rattle.rule_cycle_search.specs.declared.found.Found.{Found}
use Rattle.rule_cycle_search.specs.declared.found.Found.TheVariants.{Nothing, Cycle, Deep}
use Rattle.rule_cycle_search.specs.Graph.{IsCycleThrough, IsDeep}

-- `Recursive root path l`: l tells that the path leads from the root back to it; `IsTooLong root l`: l tells that a path from it is too long
module _ {F : Type 0} (Recursive : ℕ → List ℕ → List F → Type 0) (IsTooLong : ℕ → List F → Type 0) where
  -- l tells what was found of the root
  abbrev pub TellsFound : ℕ → Found → List F → Type 0
  TellsFound root Nothing l = l ≡ []
  TellsFound root (Cycle path) l = Recursive root path.items l
  TellsFound root Deep l = IsTooLong root l

  module _ (g : Graph) where
    abbrev pub IsOfRoot : ℕ → List F → Type 0
    IsOfRoot root l = ((path : List ℕ) × (IsCycleThrough g root path × Recursive root path l)) ⊎ (IsDeep g root × IsTooLong root l)

    -- nothing is told and no path leads from the root back to it, or what is told of the root is at the end
    abbrev pub TellsRoot : ℕ → List F → List F → Type 0
    TellsRoot root old new = ((new ≡ old) × ((path : List ℕ) → IsCycleThrough g root path → ⊥)) ⊎ ((l : List F) × (IsOfRoot root l × (new ≡ old ⊕ l)))

    -- the same for all roots below a number: what is told is of some root, and of each root with a cycle something is told
    pub record TellsRoots (number : ℕ) (old new : List F) : Type 0 where
      pub added : List F
      pub is : new ≡ old ⊕ added
      pub right : (f : F) → Contains added f → (root : ℕ) × ((l : List F) × (IsOfRoot root l × Contains l f))
      pub full : (root : ℕ) → root < number → (path : List ℕ) → IsCycleThrough g root path → (l : List F) × (IsOfRoot root l × ((f : F) → Contains l f → Contains added f))
