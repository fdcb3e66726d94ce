-- Private: leads to `CyclesTold`. What a rule adds to a list of faults.
use Rattle.std.specs.Prelude.{Vec, List, ◌≡◌}
use Rattle.std.specs.declared.alloc.Global.{Global}
use Rattle.fault_data.specs.FaultView.{faults_of}
use Rattle.fault_data.specs.Room.{◌⊕◌}
use Rattle.fault_data.specs.declared.fault.Fault.{Fault}
use Rattle.fault_data.specs.in_rule_definitions.PlacedFaults.{PlacedFault}

-- the old faults, unchanged, then those of some list for which `IsTold` holds, while there are fewer than 1,000
abbrev pub AddsSuch : Vec Fault Global → Vec Fault Global → (List PlacedFault → Type 0) → Type 0
AddsSuch old new IsTold = (these : List PlacedFault) × (IsTold these × (faults_of new ≡ faults_of old ⊕ these))
