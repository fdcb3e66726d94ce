use Rattle.std.proofs.Common.{◌≡◌, ◌++◌, length, map}
use Rattle.std.specs.Vec.Iter.{into_iter_items, into_iter_len}
use Rattle.schema_fold.specs.FaultView.{fault_of}
use Rattle.graphql_faults.specs.DetailsTree.{of_folding}
use Rattle.graphql_faults.specs.DetailsView.{diagnostics_of}
use Rattle.graphql_faults.proofs.diagnostic_list.DiagnosticList.append_schema_errors.Given as goal

abbrev pub invariant-loop-place : goal.invariant-loop-place
invariant-loop-place l =
    (diagnostics_of l.self ≡ diagnostics_of l.initial.self ++ map of_folding (map fault_of l.yielded))
    × (l.fn.errors.items ≡ l.yielded ++ into_iter_items l.place-iterator)
    × (into_iter_len l.place-iterator ≡ length (into_iter_items l.place-iterator))
