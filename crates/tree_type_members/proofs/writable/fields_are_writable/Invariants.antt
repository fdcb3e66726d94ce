use Rattle.std.proofs.Common.{◌≡◌, map, drop}
use Rattle.tree_literals.specs.in_names.Placed.{node_tree}
use Rattle.tree_type_members.specs.TypeSystemTree.{field_definition_tree}
use Rattle.tree_type_members.specs.PartsWritable.{field_definitions_writable}
use Rattle.tree_type_members.proofs.writable.fields_are_writable.Given as goal

abbrev pub invariant-loop-field : goal.invariant-loop-field
invariant-loop-field l = field_definitions_writable (map (node_tree field_definition_tree) l.fields) ≡ field_definitions_writable (map (node_tree field_definition_tree) (drop l.field-index l.fields))
