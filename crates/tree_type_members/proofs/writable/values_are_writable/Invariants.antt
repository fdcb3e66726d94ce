use Rattle.std.proofs.Common.{◌≡◌, map, drop}
use Rattle.tree_literals.specs.in_names.Placed.{node_tree}
use Rattle.tree_type_members.specs.TypeSystemTree.{enum_value_tree}
use Rattle.tree_type_members.specs.PartsWritable.{enum_values_writable}
use Rattle.tree_type_members.proofs.writable.values_are_writable.Given as goal

abbrev pub invariant-loop-value : goal.invariant-loop-value
invariant-loop-value l = enum_values_writable (map (node_tree enum_value_tree) l.values) ≡ enum_values_writable (map (node_tree enum_value_tree) (drop l.value-index l.values))
