use Rattle.std.proofs.Common.{◌≡◌, ◌++◌, map, take}
use Rattle.strict_documents.specs.DepartureViews.{departure_tree}
use Rattle.graphql_report.specs.Alike.{each_once}
use Rattle.graphql_report.specs.Warnings.{about_departure}
use Rattle.graphql_report.specs.WarningViews.{told_of}
use Rattle.graphql_report.proofs.warnings.with_departures.Given as goal

abbrev pub invariant-loop-index : goal.invariant-loop-index
invariant-loop-index l = told_of l.told ≡ told_of l.fn.told ++ map about_departure (each_once (map departure_tree (take l.index l.departures)))
