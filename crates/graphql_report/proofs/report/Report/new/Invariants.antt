use Rattle.std.proofs.Common.{map, take}
use Rattle.graphql_faults.specs.DetailsView.{details_at}
use Rattle.graphql_report.specs.Reports.{Tells, AreRanked}
use Rattle.graphql_report.proofs.report.Report.new.Given as goal

abbrev pub invariant-loop-rank : goal.invariant-loop-rank
invariant-loop-rank l = AreRanked (Tells l.sources l.path) (map details_at l.told) (take l.rank-index l.rank-items) l.entries.items
