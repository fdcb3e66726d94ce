-- What contracts see of typed documents: what they mean.
use Rattle.std.specs.Prelude.{map}
use Rattle.std.specs.Option.{option_map}
use Rattle.graphql_names.specs.Placed.{Placed, Place, node_tree}
use Rattle.graphql_names.specs.declared.node.Node.{Node}
use Rattle.document_typed_selections.specs.TypedTree.{set_type}
use Rattle.document_typed_operations.specs.TypedDocument.{TypedOperation, TypedFragment, TypedDocumentTree, typed_operation_tree, typed_document_tree}
use Rattle.document_typed_operations.specs.declared.operation.Operation.{Operation}
use Rattle.document_typed_operations.specs.declared.document.ExecutableDocument.{ExecutableDocument}
use Rattle.spec_document.specs.MeantTree.{MeantOperation, MeantFragment, MeantDocument, meant_of_set}

module _ {P : Type 0} where
  abbrev pub meant_by_operation : Placed P (TypedOperation P) → MeantOperation P
  meant_by_operation n = record {
    place = n.place;
    operation_type = n.it.operation_type;
    name = n.it.name;
    variables = n.it.variables;
    directives = n.it.directives;
    set = meant_of_set n.it.set;
  }

  abbrev pub meant_by_fragment : Placed P (TypedFragment P) → MeantFragment P
  meant_by_fragment n = record {
    place = n.place;
    name = n.it.name;
    type_condition = set_type n.it.set;
    directives = n.it.directives;
    set = meant_of_set n.it.set;
  }

  -- what a typed document means
  abbrev pub meant_document : TypedDocumentTree P → MeantDocument P
  meant_document d = record {
    anonymous = option_map meant_by_operation d.anonymous;
    named = map (λ e. (e.0, meant_by_operation e.1)) d.named;
    fragments = map (λ e. (e.0, meant_by_fragment e.1)) d.fragments;
  }

-- the meaning of a document, and of an operation
abbrev pub document_meant : ExecutableDocument → MeantDocument Place
document_meant d = meant_document (typed_document_tree d)

abbrev pub operation_meant : Node Operation → MeantOperation Place
operation_meant o = meant_by_operation (node_tree typed_operation_tree o)
