-- What contracts see of faults: the broken rule with plain data, and where.
use Rattle.std.specs.Prelude.{List, map, Vec}
use Rattle.std.specs.declared.alloc.Global.{Global}
use Rattle.graphql_names.specs.Placed.{Place}
use Rattle.rule_definitions.specs.Faults.{FaultAt, wrong}
use Rattle.fault_data.specs.DiagnosticView.{diagnostic_of}
use Rattle.fault_data.specs.declared.fault.Fault.{Fault}

abbrev pub fault_of : Fault → FaultAt Place (List Place)
fault_of f = wrong f.location (diagnostic_of f.data)

abbrev pub faults_of : Vec Fault Global → List (FaultAt Place (List Place))
faults_of faults = map fault_of faults.items
