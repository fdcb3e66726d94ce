-- Private: leads to `Appends` of `graphql_rules`. What a check adds to a list of faults.
use Rattle.std.specs.Prelude.{Vec, List, ◌≡◌, Contains, ◌↔◌}
use Rattle.std.specs.declared.alloc.Global.{Global}
use Rattle.rule_definitions.specs.PlacedFaults.{PlacedFault}
use Rattle.fault_data.specs.FaultView.{faults_of}
use Rattle.rule_definitions.specs.Room.{◌⊕◌}
use Rattle.fault_data.specs.declared.fault.Fault.{Fault}

-- the old faults, unchanged, then the faults for which `Breaks` holds and no others, as long as the list has fewer than 1,000
abbrev pub Adds : Vec Fault Global → Vec Fault Global → (PlacedFault → Type 0) → Type 0
Adds old new Breaks = (added : List PlacedFault) × ((faults_of new ≡ faults_of old ⊕ added) × ((fault : PlacedFault) → Contains added fault ↔ Breaks fault))
