-- Private: leads to `Adds` of `fault_data`. What a rule adds to a list of faults.
use Rattle.std.specs.Prelude.{Vec, List, ◌≡◌}
use Rattle.std.specs.declared.alloc.Global.{Global}
use Rattle.fault_data.specs.FaultView.{faults_of}
use Rattle.fault_data.specs.Room.{◌⊕◌}
use Rattle.fault_data.specs.declared.fault.Fault.{Fault}
use Rattle.fault_data.specs.in_rule_definitions.PlacedFaults.{PlacedFault}

-- the old faults, unchanged, then exactly these, as long as the list has fewer than 1,000
abbrev pub AddsThese : Vec Fault Global → Vec Fault Global → List PlacedFault → Type 0
AddsThese old new these = faults_of new ≡ faults_of old ⊕ these
