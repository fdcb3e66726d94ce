use Rattle.std.proofs.Common.{◌≡◌, map, take}
use Rattle.graphql_names.specs.Placed.{node_tree}
use Rattle.schema_writing.specs.Filed.{given_contents, itself, without_givers}
use Rattle.schema_writing.proofs.filing.copy_nodes.Given as goal

abbrev pub invariant-loop-component : goal.invariant-loop-component
invariant-loop-component g l = map (node_tree itself) l.out.items ≡ without_givers (given_contents (take l.component-index l.components))
