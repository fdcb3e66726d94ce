-- Private: leads to `CyclesBreak` and `RecursiveFragmentDefinitionAt`. Graphs whose nodes are numbers: what each refers to, and paths along references.
use Rattle.std.specs.Prelude.{◌≡◌, ℕ, ◌<◌, Bool, true, false, not, List, [], ◌∷◌, Contains, slice_get, nat_lt, count_by, ◌⊎◌, Vec}
use Rattle.std.specs.Global.{Global}
use Rattle.std.specs.Option.{option_map_or}
use Rattle.rule_cycle_search.specs.declared.graph.Graph.{Graph}
use Rattle.rule_cycle_search.specs.Paths.{Leads, IsWay, HasNoRepeat}

-- the list of a number, empty if it has none
abbrev pub listed : List (Vec ℕ Global) → ℕ → List ℕ
listed lists n = option_map_or (λ v. v.items) (slice_get lists n) []

abbrev pub references : Graph → ℕ → List ℕ
references g n = listed g.references.items n

abbrev pub RefersTo : Graph → ℕ → ℕ → ℕ → Type 0
RefersTo g n e m = Contains (references g n) e × (e ≡ m)

abbrev pub LeadsTo : Graph → ℕ → List ℕ → ℕ → Type 0
LeadsTo g = Leads (RefersTo g)

-- the node is of the first kind; below, of the other
abbrev pub is_first : Graph → ℕ → Bool
is_first g n = nat_lt n g.first_kind

abbrev pub is_other : Graph → ℕ → Bool
is_other g n = not (nat_lt n g.first_kind)

abbrev pub is_of : Graph → Bool → ℕ → Bool
is_of g true n = is_first g n
is_of g false n = is_other g n

-- these references, at least one, lead from the root back to it
abbrev pub IsCycleThrough : Graph → ℕ → List ℕ → Type 0
IsCycleThrough g root path = (by : ℕ) × ((rest : List ℕ) × ((path ≡ by ∷ rest) × LeadsTo g root (by ∷ rest) root))

-- the path has more nodes of one kind than the bound
abbrev pub AreTooMany : Graph → List ℕ → Type 0
AreTooMany g way = (g.bound < count_by (is_first g) way) ⊎ (g.bound < count_by (is_other g) way)

-- a path without repetition from the root has more nodes of one kind than the bound
abbrev pub IsDeep : Graph → ℕ → Type 0
IsDeep g root = (rest : List ℕ) × (IsWay (RefersTo g) (root ∷ rest) × (HasNoRepeat (root ∷ rest) × AreTooMany g (root ∷ rest)))
