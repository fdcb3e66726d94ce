-- Private: leads to `KeptDocument.antt` and `TypingFaults.antt`. What contracts see of a document that is being typed.
use Rattle.std.specs.Prelude.{◌≡◌, Bool, List, Option}
use Rattle.std.specs.Borrow.{Bor}
use Rattle.std.specs.Option.{option_map}
use Rattle.indexmap.specs.IndexMap.{IndexMap}
use Rattle.graphql_names.specs.Node.{content, place}
use Rattle.graphql_names.specs.NameValue.{NameValue}
use Rattle.graphql_names.specs.Placed.{Place, Text, name_tree, node_tree}
use Rattle.graphql_names.specs.declared.node.Node.{Node}
use Rattle.tree_operations.specs.OperationTree.{operation_tree, fragment_tree}
use Rattle.tree_operations.specs.declared.operation.OperationDefinition.{OperationDefinition}
use Rattle.tree_operations.specs.declared.operation.FragmentDefinition.{FragmentDefinition}
use Rattle.schema_types.specs.SchemaTree.{SchemaTree}
use Rattle.schema_types.specs.in_components.Names.{Entries, entries_of}
use Rattle.schema_types.specs.TypeView.{name_text}
use Rattle.graphql_schema.specs.declared.schema.Schema.{Schema}
use Rattle.document_typed_operations.specs.TypedDocument.{TypedDocumentTree, typed_operation_tree, typed_fragment_tree}
use Rattle.document_typed_operations.specs.declared.operation.Operation.{Operation}
use Rattle.document_typed_operations.specs.declared.operation.Fragment.{Fragment}
use Rattle.document_typing.specs.MeantTree.{MeantOperation, MeantFragment}
use Rattle.document_typing.specs.KeptDocument.{meant_operation, meant_fragment}
use Rattle.document_typing.specs.TypingFaults.{TypingFault}
use Rattle.document_typing.specs.SetFaults.{set_faults}
use Rattle.document_typing.specs.MeaningView.{meanings_under}
use Rattle.document_typing.specs.DefinedByPlace.{IsDefinedDocument}
use Rattle.document_typing.specs.TypedDefinitions.{Typed, told, based, name_faults, and_operation, and_fragment}
use Rattle.document_typing.specs.DocumentView.{meant_by_fragment, operation_meant}
use Rattle.document_typing.specs.FaultView.{faults_of}
use Rattle.document_typing.specs.declared.document.TypedDocument.{TypedDocument}

abbrev pub fragment_meaning : Node Fragment → MeantFragment Place
fragment_meaning n = meant_by_fragment (node_tree typed_fragment_tree n)

abbrev pub named_meanings : {S : Type 0} → IndexMap NameValue (Node Operation) S → Entries (MeantOperation Place)
named_meanings m = entries_of name_text operation_meant m

abbrev pub fragment_meanings : {S : Type 0} → IndexMap NameValue (Node Fragment) S → Entries (MeantFragment Place)
fragment_meanings m = entries_of name_text fragment_meaning m

abbrev pub typed_view : TypedDocument → Typed Place
typed_view t = record {
  document = record {
    anonymous = option_map operation_meant t.operations.anonymous;
    named = named_meanings t.operations.named;
    fragments = fragment_meanings t.fragments;
  };
  faults = faults_of t.faults;
}

-- what is kept, with the places of definitions
abbrev pub kept_tree : TypedDocument → TypedDocumentTree Place
kept_tree t = record {
  anonymous = option_map (node_tree typed_operation_tree) t.operations.anonymous;
  named = entries_of name_text (node_tree typed_operation_tree) t.operations.named;
  fragments = entries_of name_text (node_tree typed_fragment_tree) t.fragments;
}

-- ---- an operation on this root and a fragment on its condition: their meanings, and the faults of their sets

abbrev pub meant_on_root : Option (Bor Schema) → NameValue → Node OperationDefinition → MeantOperation Place
meant_on_root schema root o = meant_operation (meanings_under schema) (based (place o) root.text (operation_tree (content o)))

abbrev pub faults_on_root : Option (Bor Schema) → NameValue → Node OperationDefinition → List (TypingFault Place)
faults_on_root schema root o = set_faults (meanings_under schema) (operation_tree (content o)).selections root.text

abbrev pub meant_on_condition : Option (Bor Schema) → Node FragmentDefinition → MeantFragment Place
meant_on_condition schema f = meant_fragment (meanings_under schema) (record { place = place f; base = (content f).type_condition.text; it = fragment_tree (content f) })

abbrev pub faults_on_condition : Option (Bor Schema) → Node FragmentDefinition → List (TypingFault Place)
faults_on_condition schema f = set_faults (meanings_under schema) (fragment_tree (content f)).selections (content f).type_condition.text

-- ---- how a definition changes a document that is being typed

-- the name of an operation, if it has one
abbrev pub own_name : Node OperationDefinition → Option (Text Place)
own_name o = option_map name_tree (content o).name

-- the faults of an operation's name are told; `beside` says whether the document has other operations
abbrev pub TellsName : Bool → Node OperationDefinition → TypedDocument → TypedDocument → Type 0
TellsName beside o old new = typed_view new ≡ told (name_faults beside (place o) (own_name o) (typed_view old)) (typed_view old)

-- an operation is added, or a fragment; `beside` says whether the document has other operations
abbrev pub AddsOperation : Option (Bor Schema) → Bool → Node OperationDefinition → TypedDocument → TypedDocument → Type 0
AddsOperation schema beside o old new = typed_view new ≡ and_operation (meanings_under schema) beside (place o) (operation_tree (content o)) (own_name o) (typed_view old)

abbrev pub AddsFragment : Option (Bor Schema) → Node FragmentDefinition → TypedDocument → TypedDocument → Type 0
AddsFragment schema f old new = typed_view new ≡ and_fragment (meanings_under schema) (place f) (fragment_tree (content f)) (typed_view old)

-- if all fields that were kept before have their definitions, all fields that are kept now have theirs
abbrev pub StaysDefined : Option (SchemaTree Place) → TypedDocument → TypedDocument → Type 0
StaysDefined s old new = IsDefinedDocument s (kept_tree old) → IsDefinedDocument s (kept_tree new)
