use Rattle.std.proofs.Common.{◌≡◌, map, take}
use Rattle.graphql_names.specs.Placed.{node_tree}
use Rattle.tree_type_members.specs.TypeSystemTree.{enum_value_tree}
use Rattle.schema_fold.specs.BuiltIn.{value}
use Rattle.schema_built_in.proofs.members.values_of.Given as goal

abbrev pub invariant-loop-name : goal.invariant-loop-name
invariant-loop-name l = map (node_tree enum_value_tree) l.values.items ≡ map value (map (λ n. n.now) (take l.name-index l.names))
