use Rattle.std.proofs.Common.{◌≡◌, ◌++◌, map, take}
use Rattle.graphql_faults.specs.DetailsView.{details_at}
use Rattle.graphql_report.specs.Warnings.{about_fault}
use Rattle.graphql_report.specs.WarningViews.{told_of}
use Rattle.graphql_report.proofs.warnings.with_faults.Given as goal

abbrev pub invariant-loop-one : goal.invariant-loop-one
invariant-loop-one l = told_of l.told ≡ told_of l.fn.told ++ map about_fault (map details_at (take l.one-index l.faults))
