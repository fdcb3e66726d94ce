-- Private: leads to `CyclesBreak` and `RecursiveFragmentDefinitionAt`. Parts of a graph.
use Rattle.std.specs.Prelude.{◌≡◌, ℕ, false, List, Contains, length, ◌⊎◌}
use Rattle.rule_cycle_search.specs.declared.graph.Graph.{Graph}
use Rattle.rule_cycle_search.specs.declared.steps.Step.{Step}
use Rattle.rule_cycle_search.specs.declared.parts.Divided.{Divided}
use Rattle.rule_cycle_search.specs.Graph.{references, LeadsTo}
use Rattle.rule_cycle_search.specs.NodeSteps.{is_in, IsIn}
use Rattle.rule_cycle_search.specs.Spread.{IsTree}

module _ (g : Graph) where
  -- the center of nodes that are in no part
  abbrev pub nowhere : ℕ
  nowhere = length g.references.items

  -- steps lead from each node of the part to its center, and from there back; a node that a node of the part leads
  -- to and that leads back is in the part
  pub record IsPart (toward from : List Step) (c : ℕ) : Type 0 where
    pub onward : IsTree (IsIn from c) (λ n v. Contains (references g n) v) c toward
    pub back : IsTree (IsIn from c) (λ n v. Contains (references g v) n) c from
    pub whole : (n m : ℕ) (p q : List ℕ) → IsIn from c n → LeadsTo g n p m → LeadsTo g m q n → IsIn from c m

  -- the nodes settled so far are in parts
  pub record IsParted (toward from : List Step) : Type 0 where
    pub toward_long : length toward ≡ nowhere
    pub from_long : length from ≡ nowhere
    pub toward_center : (n c : ℕ) → IsIn toward c n → (c ≡ nowhere) ⊎ IsIn from c c
    pub from_center : (n c : ℕ) → IsIn from c n → (c ≡ nowhere) ⊎ IsIn from c c
    pub part : (c : ℕ) → (c ≡ nowhere → ⊥) → IsIn from c c → IsPart toward from c

  -- the node is settled, and so are all that were settled before
  pub record Settles (node : ℕ) (before toward from : List Step) : Type 0 where
    pub parted : IsParted toward from
    pub settled : is_in from nowhere node ≡ false
    pub kept : (n : ℕ) → is_in before nowhere n ≡ false → is_in from nowhere n ≡ false

  -- all nodes are in parts
  pub record IsWhole (toward from : List Step) : Type 0 where
    pub parted : IsParted toward from
    pub settled : (n : ℕ) → is_in from nowhere n ≡ false

-- the parts are those of the graph
abbrev pub IsDivided : Divided → Type 0
IsDivided d = IsWhole d.graph.now d.parts.now.toward.items d.parts.now.from.items
