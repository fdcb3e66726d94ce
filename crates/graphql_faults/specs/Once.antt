-- Lists that have each fault once.
use Rattle.std.specs.Prelude.{◌≡◌, ◌≤◌, List, length, Contains, ◌⊎◌}
use Rattle.rule_cycle_search.specs.Paths.{HasNoRepeat}
use Rattle.rule_definitions.specs.Room.{most_told}
use Rattle.graphql_faults.specs.Added.{TellsAll}

module _ {A : Type 0} where
  -- no two of them are equal, unless there are as many as one call tells
  abbrev pub EachOnce : List A → Type 0
  EachOnce told = (most_told ≤ length told) ⊎ HasNoRepeat told

  -- the new list has the faults of the old one, each once; a list of as many as one call tells stays
  -- unchanged
  pub record KeepsOnce (old new : List A) : Type 0 where
    pub from : (fault : A) → Contains new fault → Contains old fault
    pub all : TellsAll old new
    pub most : length old ≤ most_told → length new ≤ most_told
    pub same : most_told ≤ length old → new ≡ old
    pub once : EachOnce new
