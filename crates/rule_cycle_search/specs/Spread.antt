-- Private: leads to `CyclesBreak` and `RecursiveFragmentDefinitionAt`. What a search from a center finds.
use Rattle.std.specs.Prelude.{◌≡◌, ◌<◌, ◌≤◌, ◌+◌, drop, ℕ, false, List, ◌++◌, Contains, slice_get, length, ◌⊎◌, Vec}
use Rattle.std.specs.Global.{Global}
use Rattle.rule_cycle_search.specs.Graph.{listed}
use Rattle.rule_cycle_search.specs.declared.steps.Step.{Step}
use Rattle.rule_cycle_search.specs.NodeSteps.{is_in, IsIn, via_at, left}

-- each node of a part, apart from the center, has a step to another node of it, and each path of steps ends
pub record IsTree (In : ℕ → Type 0) (Linked : ℕ → ℕ → Type 0) (c : ℕ) (steps : List Step) : Type 0 where
  pub rank : ℕ → ℕ
  pub links : (n : ℕ) → In n → (n ≡ c) ⊎ (In (via_at steps n) × (Linked n (via_at steps n) × (rank (via_at steps n) < rank n)))

-- the search follows the references of one node to these targets
pub record Reaches (area : List Step) (key c node : ℕ) (targets : List ℕ) (old new : List Step) (before after : List ℕ) : Type 0 where
  pub long : length new ≡ length old
  pub kept : (n : ℕ) → IsIn old c n → slice_get new n ≡ slice_get old n
  pub others : (n : ℕ) → is_in new c n ≡ false → slice_get new n ≡ slice_get old n
  pub only : (n : ℕ) → IsIn new c n → IsIn old c n ⊎ (IsIn area key n × (Contains targets n × (via_at new n ≡ node)))
  pub full : (e : ℕ) → Contains targets e → IsIn area key e → IsIn new c e
  pub added : List ℕ
  pub is : after ≡ before ++ added
  pub listed : (n : ℕ) → IsIn new c n → IsIn old c n ⊎ Contains added n
  pub marked : (n : ℕ) → Contains added n → IsIn new c n
  pub shorter : left c new + length after ≡ left c old + length before

-- every node to which the center leads through the area is reached
pub record Spreads (lists : List (Vec ℕ Global)) (area : List Step) (key c : ℕ) (old new : List Step) : Type 0 where
  pub long : length new ≡ length old
  pub others : (n : ℕ) → is_in new c n ≡ false → slice_get new n ≡ slice_get old n
  pub begins : IsIn new c c
  pub inside : (n : ℕ) → IsIn new c n → (n ≡ c) ⊎ IsIn area key n
  pub tree : IsTree (IsIn new c) (λ n v. Contains (listed lists v) n) c new
  pub closed : (n e : ℕ) → IsIn new c n → Contains (listed lists n) e → IsIn area key e → IsIn new c e

-- the same during the search: the nodes that were reached are done up to an index
pub record Spreading (lists : List (Vec ℕ Global)) (area : List Step) (key c at : ℕ) (old new : List Step) (reached : List ℕ) : Type 0 where
  pub long : length new ≡ length old
  pub within : at ≤ length reached
  pub others : (n : ℕ) → is_in new c n ≡ false → slice_get new n ≡ slice_get old n
  pub begins : IsIn new c c
  pub inside : (n : ℕ) → IsIn new c n → (n ≡ c) ⊎ IsIn area key n
  pub marked : (n : ℕ) → Contains reached n → IsIn new c n
  pub tree : IsTree (IsIn new c) (λ n v. Contains (listed lists v) n) c new
  pub closed : (n : ℕ) → IsIn new c n → Contains (drop at reached) n ⊎ ((e : ℕ) → Contains (listed lists n) e → IsIn area key e → IsIn new c e)
