-- The document of a field set: one operation that selects it, and nothing else.
use Rattle.std.proofs.Common.{◌≡◌, List, [], map, None, ◌∙◌}
use Rattle.graphql_names.specs.NameValue.{NameValue}
use Rattle.graphql_names.specs.Node.{content, place}
use Rattle.graphql_names.specs.Placed.{Place, Placed, node_tree}
use Rattle.graphql_names.specs.declared.node.Node.{Node}
use Rattle.document_typed_selections.specs.TypedTree.{TypedSet}
use Rattle.document_typed_operations.specs.OperationsByName.{with_operation}
use Rattle.document_typed_operations.specs.TypedDocument.{TypedOperation, TypedOperations, typed_operation_tree, typed_fragment_tree, typed_operations_tree}
use Rattle.document_typed_operations.specs.declared.document.ExecutableDocument.{ExecutableDocument}
use Rattle.document_typed_operations.specs.declared.operation.Fragment.{Fragment}
use Rattle.document_typed_operations.specs.declared.operation.Operation.{Operation}
use Rattle.spec_document.specs.MeantTree.{MeantDocument, meant_of_set}
use Rattle.rule_fragments.specs.in_typed_operations.DocumentView.{meant_document, document_meant}
use Rattle.rule_document_definitions.specs.FieldSets.{document_of_set}
use Rattle.graphql_validation.specs.Operations.{query_on}

-- these operations, and these fragments
abbrev with_all : TypedOperations Place → List (NameValue × Node Fragment) → MeantDocument Place
with_all ops fragments = meant_document (record { anonymous = ops.anonymous; named = ops.named; fragments = map (λ (e : NameValue × Node Fragment). (e.0.text, node_tree typed_fragment_tree e.1)) fragments })

abbrev only_one : Placed Place (TypedOperation Place) → TypedOperations Place
only_one o = with_operation o (record { anonymous = None; named = [] })

pub document_of_one : (d : ExecutableDocument) (n : Node Operation) (set : TypedSet Place) → typed_operations_tree d.operations ≡ only_one (node_tree typed_operation_tree n) → d.fragments.entries ≡ []
    → typed_operation_tree (content n) ≡ query_on set → place n ≡ None → document_meant d ≡ document_of_set {P = Place} None (meant_of_set set)
document_of_one d n set ops none is nowhere =
    (λ i. with_all (ops i) (none i))
    ∙ (λ i. with_all (only_one (record { it = is i; place = nowhere i })) [])
