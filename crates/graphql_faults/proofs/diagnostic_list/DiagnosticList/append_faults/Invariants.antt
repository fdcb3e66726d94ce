use Rattle.std.proofs.Common.{◌≡◌, ◌++◌, length, map}
use Rattle.std.specs.Vec.Iter.{into_iter_items, into_iter_len}
use Rattle.fault_data.specs.FaultView.{fault_of}
use Rattle.graphql_faults.specs.DetailsTree.{of_rule}
use Rattle.graphql_faults.specs.DetailsView.{diagnostics_of}
use Rattle.graphql_faults.proofs.diagnostic_list.DiagnosticList.append_faults.Given as goal

abbrev pub invariant-loop-fault : goal.invariant-loop-fault
invariant-loop-fault l =
    (diagnostics_of l.self ≡ diagnostics_of l.initial.self ++ map of_rule (map fault_of l.yielded))
    × (l.fn.faults.items ≡ l.yielded ++ into_iter_items l.fault-iterator)
    × (into_iter_len l.fault-iterator ≡ length (into_iter_items l.fault-iterator))
