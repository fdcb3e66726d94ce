-- Private: leads to `KeptSelections.antt` and `TypingFaults.antt`. What is kept and told of a field with a definition.
use Rattle.std.specs.Prelude.{List, [], ◌∷◌, if◌then◌else◌}
use Rattle.graphql_names.specs.Node.{content, place}
use Rattle.graphql_names.specs.declared.node.Node.{Node}
use Rattle.graphql_names.specs.Placed.{Place}
use Rattle.tree_operations.specs.SelectionTree.{SelectionTrees, selection_tree, selection_trees}
use Rattle.tree_operations.specs.SelectionParts.{field_head}
use Rattle.tree_operations.specs.declared.selection.Field.{Field}
use Rattle.tree_type_members.specs.TypeSystemTree.{field_definition_tree, unplaced_field_definition}
use Rattle.tree_type_members.specs.declared.field_definition.FieldDefinition.{FieldDefinition}
use Rattle.document_typing.specs.MeantTree.{Definition, MeantSelection, MeantField, set_on}
use Rattle.document_typing.specs.Meanings.{Meanings, inner_type}
use Rattle.document_typing.specs.KeptSelections.{may_select, kept_all}
use Rattle.document_typing.specs.TypingFaults.{TypingFault}
use Rattle.document_typing.specs.SetFaults.{leaf_faults, set_faults}

-- the definition of a field, without places
abbrev pub definition_view : Node FieldDefinition → Definition
definition_view n = unplaced_field_definition (field_definition_tree (content n))

-- the selections of a field
abbrev pub selected : Node Field → SelectionTrees Place
selected n = selection_trees selection_tree (content n).selection_set.items

abbrev pub kept_defined : Meanings → Definition → Node Field → List (MeantSelection Place)
kept_defined m d n = if may_select m (inner_type d) (selected n) then MeantField (place n) d (field_head (content n)) (set_on (inner_type d) (kept_all m (selected n) (inner_type d))) ∷ [] else []

abbrev pub defined_faults : Meanings → Definition → Node Field → List (TypingFault Place)
defined_faults m d n = if may_select m (inner_type d) (selected n) then set_faults m (selected n) (inner_type d) else leaf_faults m (place n) (inner_type d)
