use Rattle.std.proofs.Common.{◌≡◌, ◌++◌, map, take}
use Rattle.graphql_names.specs.Placed.{node_tree}
use Rattle.schema_types.specs.in_components.Given.{origin_tree}
use Rattle.schema_fold.specs.Components.{all_given}
use Rattle.schema_fold.specs.PartsView.{itself, given_contents}
use Rattle.schema_fold.proofs.collected.add_components.Given as goal

abbrev pub invariant-loop-node : goal.invariant-loop-node
invariant-loop-node g l = given_contents l.all.items ≡ given_contents l.fn.all.items ++ all_given (origin_tree l.origin) (map (node_tree itself) (take l.node-index l.nodes))
