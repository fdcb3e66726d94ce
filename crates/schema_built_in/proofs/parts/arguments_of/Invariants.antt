use Rattle.std.proofs.Common.{◌≡◌, map, take}
use Rattle.graphql_names.specs.Placed.{node_tree}
use Rattle.tree_directives.specs.DirectiveTree.{input_value_tree}
use Rattle.schema_built_in.specs.Rows.{row_argument}
use Rattle.schema_built_in.proofs.parts.arguments_of.Given as goal

abbrev pub invariant-loop-row : goal.invariant-loop-row
invariant-loop-row l = map (node_tree input_value_tree) l.arguments.items ≡ map row_argument (take l.row-index l.rows)
