-- Private: leads to `fields_text` and `enum_text`. Partial texts of printers of members.
use Rattle.std.specs.Prelude.{ℕ, List, map}
use Rattle.tree_literals.specs.in_names.Placed.{node_tree}
use Rattle.tree_literals.specs.in_names.declared.node.Node.{Node}
use Rattle.tree_literals.specs.LineLayout.{Prefix, member_text, members_text, texts_of}
use Rattle.tree_type_members.specs.TypeSystemTree.{field_definition_tree, enum_value_tree}
use Rattle.tree_type_members.specs.TypeSystemLayout.{field_definition_text, enum_value_text}
use Rattle.tree_type_members.specs.declared.field_definition.FieldDefinition.{FieldDefinition}
use Rattle.tree_type_members.specs.declared.enum_value.EnumValueDefinition.{EnumValueDefinition}

-- a field on a line of its own, and all of a list
abbrev pub field_member_text : Prefix → ℕ → FieldDefinition → List ℕ
field_member_text prefix level f = member_text prefix level (field_definition_text prefix (field_definition_tree f))

abbrev pub field_members_text : Prefix → ℕ → List (Node FieldDefinition) → List ℕ
field_members_text prefix level fs = members_text prefix level (texts_of (field_definition_text prefix) (map (node_tree field_definition_tree) fs))

-- an enum value on a line of its own, and all of a list
abbrev pub value_member_text : Prefix → ℕ → EnumValueDefinition → List ℕ
value_member_text prefix level v = member_text prefix level (enum_value_text prefix (enum_value_tree v))

abbrev pub value_members_text : Prefix → ℕ → List (Node EnumValueDefinition) → List ℕ
value_members_text prefix level vs = members_text prefix level (texts_of (enum_value_text prefix) (map (node_tree enum_value_tree) vs))
