-- The texts of definitions and documents (GraphQL, October 2021, section 2.2).
use Rattle.std.specs.Prelude.{ℕ, Bool, false, List, [], ◌∷◌, map, codes, None, Some}
use Rattle.spec_tree.specs.in_operations.Joined.{joined}
use Rattle.spec_tree.specs.in_operations.LineLayout.{Prefix, Leveled, start_text}
use Rattle.spec_tree.specs.in_operations.StringLayout.{description_text}
use Rattle.spec_tree.specs.in_operations.InputLayout.{directive_definition_text}
use Rattle.spec_tree.specs.in_operations.OperationLayout.{operation_text, fragment_text, begins_output}
use Rattle.tree_composite_types.specs.in_type_members.TypeSystemLayout.{schema_text, scalar_text, fields_text, union_text, enum_text, input_object_text}
pub use Rattle.tree_composite_types.specs.in_type_members.TypeSystemLayout.{extend}
use Rattle.tree_definitions.specs.DefinitionTree.{DefinitionTree, Operation, Fragment, DirectiveDefinition, Schema, ScalarType, ObjectType, InterfaceType, UnionType, EnumType, InputObjectType, ExtendSchema, ExtendScalar, ExtendObject, ExtendInterface, ExtendUnion, ExtendEnum, ExtendInputObject}

abbrev pub definition_text : {P : Type 0} → Bool → Prefix → DefinitionTree P → Leveled
definition_text at_start prefix (Operation p o) level = operation_text at_start prefix o level
definition_text at_start prefix (Fragment p f) level = fragment_text prefix f level
definition_text at_start prefix (DirectiveDefinition p d) level = directive_definition_text prefix d level
definition_text at_start prefix (Schema p d s) level = schema_text (description_text prefix level d) prefix s level
definition_text at_start prefix (ScalarType p d t) level = scalar_text (description_text prefix level d) t
definition_text at_start prefix (ObjectType p d t) level = fields_text (description_text prefix level d) (codes "type ") prefix t level
definition_text at_start prefix (InterfaceType p d t) level = fields_text (description_text prefix level d) (codes "interface ") prefix t level
definition_text at_start prefix (UnionType p d t) level = union_text (description_text prefix level d) t
definition_text at_start prefix (EnumType p d t) level = enum_text (description_text prefix level d) prefix t level
definition_text at_start prefix (InputObjectType p d t) level = input_object_text (description_text prefix level d) prefix t level
definition_text at_start prefix (ExtendSchema p s) level = schema_text extend prefix s level
definition_text at_start prefix (ExtendScalar p t) level = scalar_text extend t
definition_text at_start prefix (ExtendObject p t) level = fields_text extend (codes "type ") prefix t level
definition_text at_start prefix (ExtendInterface p t) level = fields_text extend (codes "interface ") prefix t level
definition_text at_start prefix (ExtendUnion p t) level = union_text extend t
definition_text at_start prefix (ExtendEnum p t) level = enum_text extend prefix t level
definition_text at_start prefix (ExtendInputObject p t) level = input_object_text extend prefix t level

-- between two definitions: an empty line, or a space in a layout of one line
abbrev pub between_text : Prefix → List ℕ
between_text None = codes " "
between_text (Some prefix) = codes "\n\n"

-- a definition after another
abbrev pub next_definition_text : {P : Type 0} → Prefix → ℕ → DefinitionTree P → List ℕ
next_definition_text prefix level d = joined (between_text prefix ∷ start_text prefix level ∷ definition_text false prefix d level ∷ [])

-- what ends a document: a line feed, if the layout has lines
abbrev pub end_text : Prefix → List ℕ
end_text None = joined []
end_text (Some prefix) = codes "\n"

-- a whole document
abbrev pub document_text : {P : Type 0} → Prefix → ℕ → List (DefinitionTree P) → List ℕ
document_text prefix level [] = end_text prefix
document_text prefix level (d ∷ ds) =
    joined (start_text prefix level ∷ definition_text (begins_output prefix level) prefix d level ∷ joined (map (next_definition_text prefix level) ds) ∷ end_text prefix ∷ [])
