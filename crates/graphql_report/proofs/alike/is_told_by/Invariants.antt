use Rattle.std.proofs.Common.{◌≡◌, drop, map}
use Rattle.std.specs.List.{list_any}
use Rattle.strict_documents.specs.DepartureViews.{departure_tree}
use Rattle.graphql_report.specs.Alike.{is_alike}
use Rattle.graphql_report.proofs.alike.is_told_by.Given as goal

abbrev pub invariant-loop-other : goal.invariant-loop-other
invariant-loop-other l = list_any (is_alike (departure_tree l.one)) (map departure_tree l.others) ≡ list_any (is_alike (departure_tree l.one)) (map departure_tree (drop l.other-index l.others))
