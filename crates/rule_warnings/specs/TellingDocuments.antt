-- Private: leads to `TellsDeprecatedUses`. What is told of operations and fragments as the program has them.
use Rattle.std.specs.Prelude.{List, flat_map}
use Rattle.indexmap.specs.IndexMap.{IndexMap}
use Rattle.graphql_names.specs.NameValue.{NameValue}
use Rattle.graphql_names.specs.Placed.{Place, node_tree}
use Rattle.graphql_names.specs.declared.node.Node.{Node}
use Rattle.schema_types.specs.SchemaTree.{SchemaTree}
use Rattle.document_typed_operations.specs.TypedDocument.{typed_operation_tree, typed_fragment_tree}
use Rattle.document_typed_operations.specs.DocumentView.{meant_by_operation, meant_by_fragment}
use Rattle.document_typed_operations.specs.declared.operation.Operation.{Operation}
use Rattle.document_typed_operations.specs.declared.operation.Fragment.{Fragment}
use Rattle.rule_warnings.specs.Deprecated.{DeprecatedUse}
use Rattle.rule_warnings.specs.Told.{operation_uses, fragment_uses}

module _ (t : SchemaTree Place) where
  abbrev pub operation_uses_of : Node Operation → List (DeprecatedUse Place)
  operation_uses_of o = operation_uses t (meant_by_operation (node_tree typed_operation_tree o))

  abbrev pub fragment_uses_of : Node Fragment → List (DeprecatedUse Place)
  fragment_uses_of f = fragment_uses t (meant_by_fragment (node_tree typed_fragment_tree f))

  -- of the fragments under their names
  abbrev pub fragments_uses_of : {S : Type 0} → IndexMap NameValue (Node Fragment) S → List (DeprecatedUse Place)
  fragments_uses_of m = flat_map (λ (e : NameValue × Node Fragment). fragment_uses_of e.1) m.entries
