use Rattle.std.proofs.Common.{◌≡◌, ◌++◌, map, take}
use Rattle.graphql_report.specs.ToldPlaces.{plain, extended}
use Rattle.graphql_report.proofs.told_places.push_extended.Given as goal

abbrev pub invariant-loop-place : goal.invariant-loop-place
invariant-loop-place l = map plain l.all.items ≡ map plain l.initial.all.items ++ map extended (take l.place-index l.places)
