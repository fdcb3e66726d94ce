use Rattle.report_forms.specs.Closest.{found_of}
use Rattle.graphql_report.specs.Offered.{names_of, IsOneOf}
use Rattle.graphql_report.proofs.hints.near_name.Given as goal

abbrev pub invariant-loop-one : goal.invariant-loop-one
invariant-loop-one l = IsOneOf (names_of l.names) (found_of l.closest)
