-- Private: leads to `KeptSelections.antt`, `TypingFaults.antt` and `DefinedByPlace.antt`. What is kept and told of selections as the program has them.
use Rattle.std.specs.Prelude.{◌≡◌, ◌++◌, ◌∷◌, [], ℕ, Bool, false, List, Option, Vec, option_and_then}
use Rattle.std.specs.Borrow.{Bor}
use Rattle.std.specs.Option.{option_map, option_map_or}
use Rattle.std.specs.declared.alloc.Global.{Global}
use Rattle.graphql_names.specs.Node.{content, place}
use Rattle.graphql_names.specs.NameValue.{NameValue}
use Rattle.graphql_names.specs.Placed.{Place, name_tree, node_tree}
use Rattle.graphql_names.specs.declared.node.Node.{Node}
use Rattle.tree_directives.specs.DirectiveTree.{directives_tree}
use Rattle.tree_operations.specs.SelectionParts.{field_head}
use Rattle.tree_operations.specs.declared.selection.Field.{Field}
use Rattle.tree_operations.specs.declared.selection.FragmentSpread.{FragmentSpread}
use Rattle.tree_operations.specs.declared.selection.InlineFragment.{InlineFragment}
use Rattle.tree_type_members.specs.TypeSystemTree.{field_definition_tree}
use Rattle.tree_type_members.specs.declared.field_definition.FieldDefinition.{FieldDefinition}
use Rattle.schema_types.specs.SchemaTree.{SchemaTree, is_leaf_kind}
use Rattle.schema_types.specs.Addresses.{type_at}
use Rattle.schema_types.specs.TypeView.{extended_type}
use Rattle.schema_types.specs.declared.extended_type.ExtendedType.{ExtendedType}
use Rattle.document_typed_selections.specs.TypedTree.{typed_set_tree}
use Rattle.document_typed_selections.specs.declared.selection.Selection.{Selection}
use Rattle.document_typed_selections.specs.declared.selection.SelectionSet.{SelectionSet}
use Rattle.fault_document_errors.specs.DocumentBreaches.{DocumentBreach}
use Rattle.fault_document_errors.specs.declared.build_error.BuildError.{BuildError}
use Rattle.document_typing.specs.MeantTree.{MeantSelection, MeantField, MeantSpread, MeantInline, meant_of_set}
use Rattle.document_typing.specs.TypingFaults.{TypingFault, typing_fault_at}
use Rattle.document_typing.specs.FaultView.{faults_of}
use Rattle.document_typing.specs.DefinedField.{definition_view}
use Rattle.document_typing.specs.DefinedByPlace.{IsDefinitionOf, IsDefinedSet}
use Rattle.document_typing.specs.Meanings.{Meanings}
use Rattle.document_typing.specs.MeaningView.{schema_under, meanings_under, meant_selections, AreKeptDefined}
use Rattle.document_typing.specs.declared.typing.Typing.{Typing}

-- ---- the schema

-- the schema, if there is one, and what typing reads of it
abbrev pub schema_for : Typing → Option (SchemaTree Place)
schema_for typing = schema_under typing.schema

abbrev pub meanings_for : Typing → Meanings
meanings_for typing = meanings_under typing.schema

-- `ty` is the type of that name in the schema, `None` if there is none or no schema
abbrev pub IsTypeUnder : Option (SchemaTree Place) → List ℕ → Option (Bor ExtendedType) → Type 0
IsTypeUnder schema n ty = option_map (λ t. extended_type t.now) ty ≡ option_and_then (λ s. type_at s n) schema

-- whether values of the type have no fields; false without a type
abbrev pub is_leaf_type : Option (Bor ExtendedType) → Bool
is_leaf_type ty = option_map_or (λ t. is_leaf_kind (extended_type t.now).kind) ty false

-- ---- what is told

abbrev Faults : Type 0
Faults = Vec (Place × BuildError) Global

-- the new faults are the old ones followed by these
abbrev pub Tells : Faults → Faults → List (TypingFault Place) → Type 0
Tells old new told = faults_of new ≡ faults_of old ++ told

-- the new faults are the old ones followed by this breach at this place
abbrev pub TellsOne : Faults → Faults → Place → DocumentBreach Place → Type 0
TellsOne old new p breach = Tells old new (typing_fault_at p breach ∷ [])

-- ---- what is kept

abbrev Kept : Type 0
Kept = Vec Selection Global

-- the new selections are the old ones followed by selections with these meanings
abbrev pub Keeps : Kept → Kept → List (MeantSelection Place) → Type 0
Keeps old new more = meant_selections new ≡ meant_selections old ++ more

-- the meaning of a field with this definition, of a spread and of an inline fragment; `set` is what is kept of the selection set
abbrev pub meant_field : Node FieldDefinition → Node Field → SelectionSet → MeantSelection Place
meant_field definition field set = MeantField (place field) (definition_view definition) (field_head (content field)) (meant_of_set (typed_set_tree set))

abbrev pub meant_spread : Node FragmentSpread → MeantSelection Place
meant_spread spread = MeantSpread (place spread) (name_tree (content spread).fragment_name) (directives_tree (content spread).directives)

abbrev pub meant_inline : Node InlineFragment → SelectionSet → MeantSelection Place
meant_inline inline set = MeantInline (place inline) (option_map name_tree (content inline).type_condition) (directives_tree (content inline).directives) (meant_of_set (typed_set_tree set))

-- ---- where definitions come from

-- `definition` is that of the field of that name on the type t
abbrev pub IsDefinitionNamed : Option (SchemaTree Place) → List ℕ → NameValue → Node FieldDefinition → Type 0
IsDefinitionNamed s t name definition = IsDefinitionOf s t (name_tree name) (node_tree field_definition_tree definition)

-- if all fields kept before, of a set on the type t, have their definitions, all fields kept now have theirs
abbrev pub StayDefined : Option (SchemaTree Place) → List ℕ → Kept → Kept → Type 0
StayDefined s t old new = AreKeptDefined s t old → AreKeptDefined s t new

-- the same for each type on which this is the definition of the field
abbrev pub StayDefinedWith : Option (SchemaTree Place) → Node FieldDefinition → Node Field → Kept → Kept → Type 0
StayDefinedWith s definition field old new = (t : List ℕ) → IsDefinitionNamed s t (content field).name definition → StayDefined s t old new

-- the same for each schema and type, if this is the definition of the field there and the fields of the set have their definitions
abbrev pub StayDefinedAround : Node FieldDefinition → Node Field → SelectionSet → Kept → Kept → Type 0
StayDefinedAround definition field set old new = (s : Option (SchemaTree Place)) (t : List ℕ)
    → IsDefinitionNamed s t (content field).name definition → IsDefinedSet s (typed_set_tree set) → StayDefined s t old new
