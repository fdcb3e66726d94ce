-- `==` of operations, fragments and documents says whether they are the same without places, sources and order.
use Rattle.std.proofs.Common.{◌≡◌, ap, Bool}
use Rattle.std.specs.Option.{option_map}
use Rattle.std.specs.Bool.{Decides}
use Rattle.graphql_names.specs.NameValue.{NameValue}
use Rattle.graphql_names.specs.Node.{content}
use Rattle.graphql_names.specs.declared.node.Node.{Node}
use Rattle.graphql_names.specs.Placed.{name_tree, node_tree, unplaced_text}
use Rattle.tree_operations.specs.OperationTree.{variable_definition_tree, unplaced_variable_definition}
use Rattle.schema_types.proofs.in_operations.Decided.{through, pair_decides, name_decides, nodes_decide, options_decide}
use Rattle.schema_types.proofs.in_operations.DirectiveEquality.{directive_list_eq-Decides}
use Rattle.schema_types.proofs.in_operations.OperationEquality.{operation_type_eq-Decides, variable_definition_eq, variable_definition_eq-Decides}
use Rattle.schema_types.proofs.in_components.NamedEquality.{maps_decide}
use Rattle.schema_types.specs.in_components.Names.{named, entries_of}
use Rattle.schema_types.specs.TypeView.{name_text}
use Rattle.document_typed_selections.specs.TypedTree.{typed_set_tree, unplaced_typed_set}
use Rattle.document_typed_selections.proofs.TypedEquality.{set_eq-Decides}
use Rattle.document_typed_operations.specs.TypedDocument.{TypedOperation, TypedFragment, typed_operation_tree, typed_fragment_tree, typed_operations_tree, typed_document_tree}
use Rattle.document_typed_operations.specs.PlainDocument.{PlainOperations, PlainDocument, unplaced_typed_operation, unplaced_typed_fragment, plain_operation, plain_fragment, plain_operations, plain_document}
use Rattle.document_typed_operations.specs.declared.operation.Operation.{Operation}
use Rattle.document_typed_operations.specs.declared.operation.Fragment.{Fragment}
use Rattle.document_typed_operations.specs.declared.operation_map.OperationMap.{OperationMap}
use Rattle.document_typed_operations.specs.declared.document.ExecutableDocument.{ExecutableDocument}
use Rattle.document_typed_operations.specs.declared.document.FieldSet.{FieldSet}
use Rattle.document_typed_operations.specs.contracts.operation.OperationPartialEq.TheImpl as operation
use Rattle.document_typed_operations.specs.contracts.operation.FragmentPartialEq.TheImpl as fragment
use Rattle.document_typed_operations.specs.contracts.document.ExecutableDocumentPartialEq.TheImpl as document
use Rattle.document_typed_operations.specs.contracts.document.FieldSetPartialEq.TheImpl as field_set

pub operation_eq-Decides : (a b : Operation) → Decides (operation.ghosts.eq a b) (unplaced_typed_operation (typed_operation_tree a) ≡ unplaced_typed_operation (typed_operation_tree b))
operation_eq-Decides a b =
    through
    (pair_decides _ _ (operation_type_eq-Decides a.operation_type b.operation_type)
    (pair_decides _ _ (options_decide _ unplaced_text name_tree name_decides a.name b.name)
    (pair_decides _ _ (nodes_decide variable_definition_eq unplaced_variable_definition variable_definition_tree variable_definition_eq-Decides a.variables.items b.variables.items)
    (pair_decides _ _ (directive_list_eq-Decides a.directives b.directives)
    (set_eq-Decides a.selection_set b.selection_set)))))
    (λ s i. record { operation_type = s.0 i; name = s.1.0 i; variables = s.1.1.0 i; directives = s.1.1.1.0 i; set = s.1.1.1.1 i })
    (λ r. (ap (λ (t : TypedOperation (Unit {0})). t.operation_type) r, (ap (λ (t : TypedOperation (Unit {0})). t.name) r, (ap (λ (t : TypedOperation (Unit {0})). t.variables) r, (ap (λ (t : TypedOperation (Unit {0})). t.directives) r, ap (λ (t : TypedOperation (Unit {0})). t.set) r)))))

pub fragment_eq-Decides : (a b : Fragment) → Decides (fragment.ghosts.eq a b) (unplaced_typed_fragment (typed_fragment_tree a) ≡ unplaced_typed_fragment (typed_fragment_tree b))
fragment_eq-Decides a b =
    through
    (pair_decides _ _ (name_decides a.name b.name)
    (pair_decides _ _ (directive_list_eq-Decides a.directives b.directives)
    (set_eq-Decides a.selection_set b.selection_set)))
    (λ s i. record { name = s.0 i; directives = s.1.0 i; set = s.1.1 i })
    (λ r. (ap (λ (t : TypedFragment (Unit {0})). t.name) r, (ap (λ (t : TypedFragment (Unit {0})). t.directives) r, ap (λ (t : TypedFragment (Unit {0})). t.set) r)))

-- maps of operations are the same where the one without a name is, and those under names are
operations_decide : {same : Bool} (a b : OperationMap NameValue (Node Operation))
    → Decides same ((option_map plain_operation (option_map (node_tree typed_operation_tree) a.anonymous) ≡ option_map plain_operation (option_map (node_tree typed_operation_tree) b.anonymous))
    × (named plain_operation (entries_of name_text (node_tree typed_operation_tree) a.named) ≡ named plain_operation (entries_of name_text (node_tree typed_operation_tree) b.named)))
    → Decides same (plain_operations (typed_operations_tree a) ≡ plain_operations (typed_operations_tree b))
operations_decide a b parts =
    through
    parts
    (λ h i. record { anonymous = h.0 i; named = h.1 i })
    (λ e. (ap (λ (t : PlainOperations). t.anonymous) e, ap (λ (t : PlainOperations). t.named) e))

pub document_eq-Decides : (a b : ExecutableDocument) → Decides (document.ghosts.eq a b) (plain_document (typed_document_tree a) ≡ plain_document (typed_document_tree b))
document_eq-Decides a b =
    through
    (pair_decides _ _ (operations_decide a.operations b.operations
    (pair_decides _ _ (options_decide _ plain_operation (node_tree typed_operation_tree) (λ m n. operation_eq-Decides (content m) (content n)) a.operations.anonymous b.operations.anonymous)
    (maps_decide name_text _ plain_operation (node_tree typed_operation_tree) (λ m n. operation_eq-Decides (content m) (content n)) a.operations.named b.operations.named)))
    (maps_decide name_text _ plain_fragment (node_tree typed_fragment_tree) (λ m n. fragment_eq-Decides (content m) (content n)) a.fragments b.fragments))
    (λ h i. record { operations = h.0 i; fragments = h.1 i })
    (λ e. (ap (λ (t : PlainDocument). t.operations) e, ap (λ (t : PlainDocument). t.fragments) e))

pub field_set_eq-Decides : (a b : FieldSet) → Decides (field_set.ghosts.eq a b) (unplaced_typed_set (typed_set_tree a.selection_set) ≡ unplaced_typed_set (typed_set_tree b.selection_set))
field_set_eq-Decides a b = set_eq-Decides a.selection_set b.selection_set

-- what `==` says
pub ruleset equality = (operation_eq-Decides, fragment_eq-Decides, document_eq-Decides, field_set_eq-Decides)
