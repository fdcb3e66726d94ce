-- Private: leads to `is_same_data`. The places that `==` of data does not compare.
use Rattle.std.specs.Prelude.{List, [], map}
use Rattle.graphql_names.specs.Node.{place}
use Rattle.graphql_names.specs.Placed.{Place}
use Rattle.fault_data.specs.declared.diagnostic_data.DiagnosticData.{DiagnosticData}
use Rattle.fault_data.specs.declared.diagnostic_data.DiagnosticData.TheVariants as rust

-- the places of the nodes of a trace
abbrev pub trace_places : DiagnosticData → List Place
trace_places (rust.RecursiveInputObjectDefinition name trace) = map place trace.items
trace_places (rust.RecursiveDirectiveDefinition name trace) = map place trace.items
trace_places (rust.RecursiveFragmentDefinition head_location name trace) = map place trace.items
trace_places _ = []
