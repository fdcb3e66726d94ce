use Rattle.std.proofs.Common.{◌≡◌, map, take}
use Rattle.graphql_names.specs.Placed.{node_tree}
use Rattle.tree_type_members.specs.TypeSystemTree.{field_definition_tree}
use Rattle.schema_built_in.specs.Rows.{row_field}
use Rattle.schema_built_in.proofs.members.fields_of.Given as goal

abbrev pub invariant-loop-row : goal.invariant-loop-row
invariant-loop-row l = map (node_tree field_definition_tree) l.fields.items ≡ map row_field (take l.row-index l.rows)
