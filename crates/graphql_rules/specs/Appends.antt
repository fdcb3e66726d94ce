-- What a check adds at the end of a list.
use Rattle.std.specs.Prelude.{◌≡◌, ◌++◌, List, map, take, Contains, ◌↔◌}
use Rattle.rule_definitions.specs.PlacedFaults.{PlacedFault}
use Rattle.rule_definitions.specs.Room.{most_told}
use Rattle.graphql_faults.specs.DetailsTree.{Telling, of_rule}

-- the new list is the old one, then these faults
abbrev pub AppendsThese : Telling → Telling → List PlacedFault → Type 0
AppendsThese old new added = new ≡ old ++ map of_rule added

-- the new list is the old one, then the first 1,000 of the faults by which the rules break, and no others
abbrev pub Appends : Telling → Telling → (PlacedFault → Type 0) → Type 0
Appends old new Breaks = (all : List PlacedFault) × (AppendsThese old new (take most_told all) × ((fault : PlacedFault) → Contains all fault ↔ Breaks fault))
