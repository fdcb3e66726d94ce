-- What contracts see of a selected field (GraphQL, October 2021, section 5.3.2).
use Rattle.std.specs.Prelude.{map, None}
use Rattle.graphql_names.specs.Node.{content as content_of_node, place}
use Rattle.graphql_names.specs.Placed.{Place, node_tree}
use Rattle.tree_type_members.specs.TypeSystemTree.{field_definition_tree, unplaced_field_definition}
use Rattle.graphql_names.specs.NameValue.{NameValue}
use Rattle.graphql_names.specs.declared.node.Node.{Node}
use Rattle.schema_components.specs.Names.{Entries, entries_of}
use Rattle.schema_types.specs.TypeView.{name_text}
use Rattle.document_typed_selections.specs.TypedTree.{typed_set_tree}
use Rattle.document_typed_selections.specs.TypedParts.{typed_head}
use Rattle.document_typed_operations.specs.TypedDocument.{typed_fragment_tree}
use Rattle.document_typed_operations.specs.declared.operation.Fragment.{Fragment}
use Rattle.rule_document_definitions.specs.in_spec_document.MeantTree.{MeantFragment, meant_of_set}
use Rattle.document_typed_operations.specs.DocumentView.{meant_by_fragment}
use Rattle.rule_document_definitions.specs.Selected.{InOperation, StandingField}
use Rattle.rule_document_definitions.specs.Contents.{unplaced_content}
use Rattle.indexmap.specs.IndexMap.{IndexMap}
use Rattle.rule_reach.specs.declared.field_selection.FieldSelection.{FieldSelection}

-- the field without its position in the document: that is always `InOperation None`
abbrev pub field_of : FieldSelection → StandingField Place
field_of x = record {
  position = InOperation None;
  parent = x.parent_type.now.text;
  place = place x.field.now;
  definition = unplaced_field_definition (field_definition_tree (content_of_node (content_of_node x.field.now).definition));
  head = typed_head (content_of_node x.field.now);
  set = meant_of_set (typed_set_tree (content_of_node x.field.now).selection_set);
}

-- the content of the field, without places: what equality and hash read
abbrev pub content_of : FieldSelection → StandingField (Unit {0})
content_of x = unplaced_content (field_of x)

-- the meanings of the fragments of a document, each under its name
abbrev pub meant_fragments : {S : Type 0} → IndexMap NameValue (Node Fragment) S → Entries (MeantFragment Place)
meant_fragments m = map (λ e. (e.0, meant_by_fragment e.1)) (entries_of name_text (node_tree typed_fragment_tree) m)
