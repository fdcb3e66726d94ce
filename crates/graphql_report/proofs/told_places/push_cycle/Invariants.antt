use Rattle.std.proofs.Common.{◌≡◌, ◌++◌, map, take}
use Rattle.graphql_names.specs.Node.{place}
use Rattle.graphql_report.specs.ToldPlaces.{plain, in_cycle}
use Rattle.graphql_report.proofs.told_places.push_cycle.Given as goal

abbrev pub invariant-loop-node : goal.invariant-loop-node
invariant-loop-node g l = map plain l.all.items ≡ map plain l.initial.all.items ++ map (λ node. in_cycle (place node)) (take l.node-index l.cycle)
