-- What contracts see of `Details` and of a `DiagnosticList`.
use Rattle.std.specs.Prelude.{◌≡◌, List, ◌++◌, map}
use Rattle.graphql_names.specs.Placed.{Place}
use Rattle.schema_fold.specs.FaultView.{breach_of}
use Rattle.fault_document_errors.specs.DocumentBreachView.{document_breach_of}
use Rattle.fault_data.specs.DiagnosticView.{diagnostic_of}
use Rattle.graphql_faults.specs.DetailsTree as tree
use Rattle.graphql_faults.specs.DetailsTree.{DetailsTree, DetailsAt}
use Rattle.graphql_faults.specs.declared.details.Details.{Details}
use Rattle.graphql_faults.specs.declared.details.Details.TheVariants as rust
use Rattle.graphql_faults.specs.declared.diagnostic_list.DiagnosticList.{DiagnosticList}

abbrev pub details_of : Details → DetailsTree Place (List Place)
details_of (rust.Syntax kind) = tree.Syntax kind
details_of rust.Nesting = tree.Nesting
details_of rust.Spent = tree.Spent
details_of (rust.SchemaBuild e) = tree.SchemaBuild (breach_of e)
details_of (rust.DocumentBuild e) = tree.DocumentBuild (document_breach_of e)
details_of (rust.Data d) = tree.Data (diagnostic_of d)
details_of rust.RecursionLimitError = tree.RecursionLimitError

abbrev pub details_at : Place × Details → DetailsAt Place (List Place)
details_at d = record { place = d.0; details = details_of d.1 }

-- what a list tells, in order
abbrev pub diagnostics_of : DiagnosticList → List (DetailsAt Place (List Place))
diagnostics_of list = map details_at list.diagnostics.items

-- the second list begins with the first
abbrev pub BeginsAs : {A : Type 0} → List A → List A → Type 0
BeginsAs {A} front all = (rest : List A) × (all ≡ front ++ rest)
