-- Private: leads to `schema_text`. Partial texts of its printers.
use Rattle.std.specs.Prelude.{ℕ, List, map}
use Rattle.tree_literals.specs.in_names.Placed.{node_tree}
use Rattle.tree_literals.specs.in_names.declared.name.Name.{Name}
use Rattle.tree_literals.specs.in_names.declared.node.Node.{Node}
use Rattle.tree_type_members.specs.in_directives.declared.operation_type.OperationType.{OperationType}
use Rattle.tree_literals.specs.LineLayout.{Prefix, member_text, members_text, texts_of}
use Rattle.tree_type_members.specs.TypeSystemLayout.{root_text}
use Rattle.tree_input_types.specs.InputTypeTree.{root_tree}

-- a root operation type on a line of its own, and all of a list
abbrev pub root_member_text : Prefix → ℕ → OperationType → Name → List ℕ
root_member_text prefix level operation name = member_text prefix level (root_text (root_tree (operation, name)))

abbrev pub root_members_text : Prefix → ℕ → List (Node (OperationType × Name)) → List ℕ
root_members_text prefix level roots = members_text prefix level (texts_of root_text (map (node_tree root_tree) roots))
