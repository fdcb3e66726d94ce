use Rattle.std.proofs.Common.{◌≡◌, ◌+◌, drop}
use Rattle.tree_directives.specs.NamedNodes.{is_named, nth_place}
use Rattle.tree_directives.proofs.named.nth_place.Given as goal

abbrev pub invariant-loop-node : goal.invariant-loop-node
invariant-loop-node g l = (l.place ≡ l.node-index) × (nth_place (is_named g.T.Named.name_of l.name) l.position l.nodes ≡ l.place + nth_place (is_named g.T.Named.name_of l.name) l.before (drop l.node-index l.nodes))
