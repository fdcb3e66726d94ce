-- Private: leads to `CompositeTree`. The fields of objects and interfaces.
use Rattle.std.specs.Prelude.{List, map}
use Rattle.tree_literals.specs.in_names.Placed.{Placed, Place, node_tree}
use Rattle.tree_literals.specs.in_names.declared.node.Node.{Node}
use Rattle.tree_type_members.specs.TypeSystemTree.{FieldDefinitionTree, field_definition_tree}
use Rattle.tree_type_members.specs.declared.field_definition.FieldDefinition.{FieldDefinition}

abbrev pub field_trees : List (Node FieldDefinition) → List (Placed Place (FieldDefinitionTree Place))
field_trees fields = map (node_tree field_definition_tree) fields
