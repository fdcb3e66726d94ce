-- Private: leads to `specs/Out.antt` of `schema_types`. What is written after other definitions.
use Rattle.std.specs.Prelude.{◌≡◌, ◌++◌, List, [], ◌∷◌, map, Option, Vec}
use Rattle.std.specs.Option.{option_map}
use Rattle.std.specs.declared.alloc.Global.{Global}
use Rattle.graphql_names.specs.Node.{content, place}
use Rattle.graphql_names.specs.NameValue.{NameValue}
use Rattle.graphql_names.specs.NodeStrValue.{NodeStrValue}
use Rattle.graphql_names.specs.Placed.{Placed, Place, name_tree, text_tree, node_tree}
use Rattle.graphql_names.specs.declared.node.Node.{Node}
use Rattle.tree_directives.specs.declared.operation_type.OperationType.{OperationType}
use Rattle.tree_type_members.specs.TypeSystemTree.{RootOperationTree, ScalarParts, UnionParts, EnumParts, InputObjectParts}
use Rattle.tree_definitions.specs.DefinitionTree.{DefinitionTree, definition_tree, root_tree}
use Rattle.tree_definitions.specs.declared.definition.Definition.{Definition}
use Rattle.schema_types.specs.TypeParts.{TypeParts, definition_by, extension_by}
use Rattle.schema_types.specs.declared.type_kind.TypeKind.{TypeKind}
use Rattle.schema_writing.specs.Contents.{named_parts}
use Rattle.schema_writing.specs.ContentsView.{parts_view}
use Rattle.schema_writing.specs.declared.definition_by.Heading.{Heading}
use Rattle.schema_writing.specs.declared.parts.Parts.{Parts}

-- the new definitions are the old ones followed by these
abbrev pub Writes : Vec Definition Global → Vec Definition Global → List (DefinitionTree Place) → Type 0
Writes old new written = map definition_tree new.items ≡ map definition_tree old.items ++ written

-- the new definitions are the old ones followed by one with this content and this place
abbrev pub WritesPlaced : {T : Type 0} → (Node T → Definition → Type 0) → Place → T → Vec Definition Global → Vec Definition Global → Type 0
WritesPlaced {T} gives location value old new = (n : Node T) × (d : Definition) × (
    (content n ≡ value) × (place n ≡ location) × gives n d × (new.items ≡ old.items ++ d ∷ []))

-- the new roots are the old ones followed by these
abbrev pub AddsRoots : Vec (Node (OperationType × NameValue)) Global → Vec (Node (OperationType × NameValue)) Global → List (Placed Place (RootOperationTree Place)) → Type 0
AddsRoots old new more = map (node_tree root_tree) new.items ≡ map (node_tree root_tree) old.items ++ more

-- ---- a type of that kind and name with these parts

abbrev pub parts_of : TypeKind → NameValue → Parts → TypeParts Place
parts_of kind name parts = named_parts kind (name_tree name) (parts_view parts)

-- the definition of a type, and an extension of a type
abbrev pub headed_definition : Heading → Option NodeStrValue → Parts → DefinitionTree Place
headed_definition heading description parts = definition_by heading.kind heading.location (option_map text_tree description) (parts_of heading.kind heading.name parts)

abbrev pub headed_extension : Heading → Parts → DefinitionTree Place
headed_extension heading parts = extension_by heading.kind heading.location (parts_of heading.kind heading.name parts)

-- the parts of a scalar, of a union, of an enum and of an input object
abbrev pub scalar_of : NameValue → Parts → ScalarParts Place
scalar_of name parts = record { name = name_tree name; directives = (parts_view parts).directives }

abbrev pub union_of : NameValue → Parts → UnionParts Place
union_of name parts = record { name = name_tree name; directives = (parts_view parts).directives; members = (parts_view parts).members }

abbrev pub enum_of : NameValue → Parts → EnumParts Place
enum_of name parts = record { name = name_tree name; directives = (parts_view parts).directives; values = (parts_view parts).values }

abbrev pub input_object_of : NameValue → Parts → InputObjectParts Place
input_object_of name parts = record { name = name_tree name; directives = (parts_view parts).directives; fields = (parts_view parts).inputs }
