use Rattle.std.proofs.Common.{map, take}
use Rattle.graphql_report.specs.Reports.{AreRanked}
use Rattle.graphql_report.specs.Warnings.{Warns}
use Rattle.graphql_report.specs.WarningViews.{told_at}
use Rattle.graphql_report.proofs.warnings.entries_of.Given as goal

abbrev pub invariant-loop-rank : goal.invariant-loop-rank
invariant-loop-rank l = AreRanked (Warns l.sources l.path) (map told_at l.told) (take l.rank-index l.ranks) l.entries.items
