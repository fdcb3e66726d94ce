-- Private: leads to `IsMerged`. A walk over the sets of nodes for the fields that they select, in which no fragment is walked twice.
use Rattle.std.specs.Prelude.{◌≡◌, ◌⊎◌, ◌++◌, ◌∷◌, ℕ, Bool, IsTrue, true, false, List, [], map, take, Some, slice_get, Contains}
use Rattle.rule_cycle_search.specs.Paths.{HasNoRepeat}
use Rattle.rule_selection_queries.specs.in_document_definitions.Reached.{Closed}
use Rattle.list_interner.specs.NumberSet.{numbers_in}
use Rattle.rule_field_sets.specs.Nodes.{set_nodes, fragment_nodes}
use Rattle.rule_field_sets.specs.declared.field_sets.FieldSets.{FieldSets}
use Rattle.rule_field_sets.specs.declared.member.Member.{Member}
use Rattle.rule_field_sets.specs.declared.member.SetNode.{SetNode}
use Rattle.rule_field_groups.specs.declared.node_walk.NodeWalk.{NodeWalk}

-- ---- what a walk has found

-- the fields that were found and their numbers, the fragments that were spread, by index, and whether all that was met was paid
pub record WalkState : Type 0 where
  pub members : List Member
  pub numbers : List ℕ
  pub spread : List ℕ
  pub is_whole : Bool

abbrev pub state_of : NodeWalk → WalkState
state_of w = record { members = w.members.items; numbers = numbers_in w.numbers; spread = w.spread.keys; is_whole = w.is_whole }

abbrev pub numbers_of : List Member → List ℕ
numbers_of ms = map (λ (m : Member). m.number) ms

-- the numbers are those of the fields, each once
pub record AreNumbered (s : WalkState) : Type 0 where
  pub within : (n : ℕ) → Contains s.numbers n → Contains (numbers_of s.members) n
  pub covers : (n : ℕ) → Contains (numbers_of s.members) n → Contains s.numbers n
  pub apart : HasNoRepeat (numbers_of s.members)

-- nothing changes, except that the walk is no longer whole if something is not paid
abbrev pub with_paid : Bool → WalkState → WalkState
with_paid true s = s
with_paid false s = record s { is_whole = false }

-- these fields and these spreads are visited; only some of them, if the walk is not whole
pub record Passes (members : List Member) (spreads : List ℕ) (old new : WalkState) : Type 0 where
  pub numbered : AreNumbered old → AreNumbered new
  pub more : (m : Member) → Contains old.members m → Contains new.members m
  pub from : (m : Member) → Contains new.members m → Contains old.members m ⊎ Contains members m
  pub spread : (added : List ℕ) × ((new.spread ≡ old.spread ++ added) × ((p : ℕ) → Contains added p → Contains spreads p))
  pub was_whole : IsTrue new.is_whole → IsTrue old.is_whole
  pub all_members : IsTrue new.is_whole → AreNumbered old → (m : Member) → Contains members m → Contains (numbers_of new.members) m.number
  pub all_spreads : IsTrue new.is_whole → (p : ℕ) → Contains spreads p → Contains new.spread p

abbrev pub PassesMember : Member → WalkState → WalkState → Type 0
PassesMember m = Passes (m ∷ []) []

abbrev pub PassesMembers : List Member → WalkState → WalkState → Type 0
PassesMembers ms = Passes ms []

abbrev pub PassesSpreads : List ℕ → WalkState → WalkState → Type 0
PassesSpreads = Passes []

abbrev pub PassesNode : SetNode → WalkState → WalkState → Type 0
PassesNode v = Passes v.members.items v.spreads.items

-- the fields of a node were found, and its spreads noted
pub record IsPassed (s : WalkState) (v : SetNode) : Type 0 where
  pub members : (m : Member) → Contains v.members.items m → Contains (numbers_of s.members) m.number
  pub spreads : (p : ℕ) → Contains v.spreads.items p → Contains s.spread p

-- ---- where a walk leads

module _ (w : FieldSets) where
  -- `v` is the node of the set of the fragment with this index in the document
  abbrev pub IsStartOf : ℕ → SetNode → Type 0
  IsStartOf place v = (n : ℕ) × ((slice_get (fragment_nodes w) place ≡ Some n) × (slice_get (set_nodes w) n ≡ Some v))

  -- the set of the node `n` spreads a fragment whose node is `m`
  abbrev pub SpreadsNode : ℕ → ℕ → Type 0
  SpreadsNode n m = (v : SetNode) × ((slice_get (set_nodes w) n ≡ Some v) × ((p : ℕ) × (Contains v.spreads.items p × (slice_get (fragment_nodes w) p ≡ Some m))))

  -- spreads lead from one node to another: the smallest set of nodes that has `n`, and with each node those that it spreads
  abbrev pub IsNodeFrom : ℕ → ℕ → Type 0
  IsNodeFrom n = Closed (λ m. m ≡ n) SpreadsNode

  -- spreads lead to `v` from one of these nodes
  abbrev pub IsReached : List ℕ → SetNode → Type 0
  IsReached nodes v = (n : ℕ) × (Contains nodes n × ((m : ℕ) × (IsNodeFrom n m × (slice_get (set_nodes w) m ≡ Some v))))

  -- nothing is found but what these nodes lead to; if the walk is whole, the nodes and the fragments with these indices are visited
  pub record IsWalkOver (nodes : List ℕ) (entered : List ℕ) (s : WalkState) : Type 0 where
    pub numbered : AreNumbered s
    pub members : (m : Member) → Contains s.members m → (v : SetNode) × (IsReached nodes v × Contains v.members.items m)
    pub spread : (p : ℕ) → Contains s.spread p → (v : SetNode) × (IsReached nodes v × Contains v.spreads.items p)
    pub over_nodes : IsTrue s.is_whole → (n : ℕ) → Contains nodes n → (v : SetNode) × ((slice_get (set_nodes w) n ≡ Some v) × IsPassed s v)
    pub over_fragments : IsTrue s.is_whole → (p : ℕ) → Contains entered p → (v : SetNode) × (IsStartOf p v × IsPassed s v)

  -- the same, and all fragments that were spread are visited
  abbrev pub IsWalk : List ℕ → WalkState → Type 0
  IsWalk nodes s = IsWalkOver nodes s.spread s

  -- a walk whose first spread fragments are visited continues over the others
  abbrev pub WalksOn : ℕ → WalkState → WalkState → Type 0
  WalksOn entered old new = (nodes : List ℕ) → IsWalkOver nodes (take entered old.spread) old → IsWalk nodes new

  -- a walk over some nodes continues over one more
  abbrev pub WalksOver : ℕ → WalkState → WalkState → Type 0
  WalksOver n old new = (nodes : List ℕ) → IsWalk nodes old → IsWalk (nodes ++ n ∷ []) new
