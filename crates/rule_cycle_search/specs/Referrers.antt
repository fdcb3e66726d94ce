-- Private: leads to `CyclesBreak` and `RecursiveFragmentDefinitionAt`. References in reverse.
use Rattle.std.specs.Prelude.{◌≡◌, ◌<◌, ℕ, List, Contains, length, ◌⊎◌, Vec}
use Rattle.std.specs.Global.{Global}
use Rattle.rule_cycle_search.specs.Graph.{listed}

-- the node is added to the lists of these targets, and nothing else is added
pub record AddsReferrer (node : ℕ) (targets : List ℕ) (old new : List (Vec ℕ Global)) : Type 0 where
  pub long : length new ≡ length old
  pub sound : (e n : ℕ) → Contains (listed new e) n → Contains (listed old e) n ⊎ ((n ≡ node) × Contains targets e)
  pub kept : (e n : ℕ) → Contains (listed old e) n → Contains (listed new e) n
  pub full : (e : ℕ) → Contains targets e → e < length old → Contains (listed new e) node

-- the same for all nodes below a number
pub record AreReferrersBelow (node : ℕ) (references referrers : List (Vec ℕ Global)) : Type 0 where
  pub long : length referrers ≡ length references
  pub sound : (e n : ℕ) → Contains (listed referrers e) n → Contains (listed references n) e
  pub full : (e n : ℕ) → n < node → e < length references → Contains (listed references n) e → Contains (listed referrers e) n

pub record AreReferrers (references referrers : List (Vec ℕ Global)) : Type 0 where
  pub long : length referrers ≡ length references
  pub sound : (e n : ℕ) → Contains (listed referrers e) n → Contains (listed references n) e
  pub full : (e n : ℕ) → e < length references → Contains (listed references n) e → Contains (listed referrers e) n
