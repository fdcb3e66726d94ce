-- A list of faults to which others are added, each of them once.
use Rattle.std.specs.Prelude.{◌≡◌, ◌≤◌, ◌⊎◌, ◌++◌, List, length, Contains}
use Rattle.rule_cycle_search.specs.Paths.{HasNoRepeat}
use Rattle.rule_definitions.specs.Room.{most_told}

module _ {A : Type 0} where
  -- the new list begins with the old one
  abbrev pub BeginsAs : List A → List A → Type 0
  BeginsAs old new = (added : List A) × (new ≡ old ++ added)

  -- after the old faults come some of `more`
  pub record AddsNew (old more new : List A) : Type 0 where
    pub begins : BeginsAs old new
    -- each was in the old list or is one of `more`
    pub from : (fault : A) → Contains new fault → Contains old fault ⊎ Contains more fault
    -- no two are equal, if no two of the old ones were
    pub once : HasNoRepeat old → HasNoRepeat new
    -- no more than one call tells (1,000), unless the old list had more
    pub most : length old ≤ most_told → length new ≤ most_told

  -- each of `more` is in the new list, unless that has as many as one call tells
  abbrev pub TellsAll : List A → List A → Type 0
  TellsAll more new = (most_told ≤ length new) ⊎ ((fault : A) → Contains more fault → Contains new fault)
