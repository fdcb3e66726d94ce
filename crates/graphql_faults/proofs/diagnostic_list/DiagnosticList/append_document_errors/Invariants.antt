use Rattle.std.proofs.Common.{◌≡◌, ◌++◌, length, map}
use Rattle.std.specs.Vec.Iter.{into_iter_items, into_iter_len}
use Rattle.fault_document_errors.specs.FaultView.{fault_of}
use Rattle.graphql_faults.specs.DetailsTree.{of_typing}
use Rattle.graphql_faults.specs.DetailsView.{diagnostics_of}
use Rattle.graphql_faults.proofs.diagnostic_list.DiagnosticList.append_document_errors.Given as goal

abbrev pub invariant-loop-place : goal.invariant-loop-place
invariant-loop-place l =
    (diagnostics_of l.self ≡ diagnostics_of l.initial.self ++ map of_typing (map fault_of l.yielded))
    × (l.fn.errors.items ≡ l.yielded ++ into_iter_items l.place-iterator)
    × (into_iter_len l.place-iterator ≡ length (into_iter_items l.place-iterator))
