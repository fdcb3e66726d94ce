-- What contracts see of the faults of typing.
use Rattle.std.specs.Prelude.{List, map, Vec}
use Rattle.std.specs.declared.alloc.Global.{Global}
use Rattle.graphql_names.specs.Placed.{Place}
use Rattle.fault_document_errors.specs.DocumentBreaches.{TypingFault}
use Rattle.fault_document_errors.specs.DocumentBreachView.{document_breach_of}
use Rattle.fault_document_errors.specs.declared.build_error.BuildError.{BuildError}

abbrev pub fault_of : Place × BuildError → TypingFault Place
fault_of f = record { place = f.0; breach = document_breach_of f.1 }

abbrev pub faults_of : Vec (Place × BuildError) Global → List (TypingFault Place)
faults_of faults = map fault_of faults.items
