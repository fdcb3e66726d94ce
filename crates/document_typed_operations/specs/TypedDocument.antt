-- Documents under a schema: operations and fragments with typed selections (GraphQL, October 2021, sections 2.2, 2.3 and 2.8).
use Rattle.std.specs.Prelude.{ℕ, List, map, Option}
use Rattle.std.specs.Option.{option_map}
use Rattle.graphql_names.specs.Placed.{Placed, Place, Text, name_tree, node_tree}
use Rattle.graphql_names.specs.NameValue.{NameValue}
use Rattle.graphql_names.specs.declared.node.Node.{Node}
use Rattle.tree_directives.specs.DirectiveTree.{Directives, directives_tree}
use Rattle.tree_operations.specs.OperationTree.{VariableDefinitionTree, variable_definition_tree}
use Rattle.tree_directives.specs.declared.operation_type.OperationType.{OperationType}
use Rattle.schema_types.specs.in_components.Names.{Entries, entries_of}
use Rattle.schema_types.specs.TypeView.{name_text}
use Rattle.document_typed_selections.specs.TypedTree.{TypedSet, typed_set_tree}
use Rattle.document_typed_operations.specs.declared.operation.Operation.{Operation}
use Rattle.document_typed_operations.specs.declared.operation.Fragment.{Fragment}
use Rattle.document_typed_operations.specs.declared.operation_map.OperationMap.{OperationMap}
use Rattle.document_typed_operations.specs.declared.document.ExecutableDocument.{ExecutableDocument}

-- operation_type name(variables) @directives { }, with its set on the root type
pub record TypedOperation (P : Type 0) : Type 0 where
  pub operation_type : OperationType
  pub name : Option (Text P)
  pub variables : List (Placed P (VariableDefinitionTree P))
  pub directives : Directives P
  pub set : TypedSet P

-- fragment name on the type of the set @directives { }
pub record TypedFragment (P : Type 0) : Type 0 where
  pub name : Text P
  pub directives : Directives P
  pub set : TypedSet P

-- the operation without a name, if there is one, and the others under their names, in order
pub record TypedOperations (P : Type 0) : Type 0 where
  pub anonymous : Option (Placed P (TypedOperation P))
  pub named : Entries (Placed P (TypedOperation P))

-- the same operations, and the fragments under their names, in order
pub record TypedDocumentTree (P : Type 0) : Type 0 where
  pub anonymous : Option (Placed P (TypedOperation P))
  pub named : Entries (Placed P (TypedOperation P))
  pub fragments : Entries (Placed P (TypedFragment P))

abbrev pub typed_operation_tree : Operation → TypedOperation Place
typed_operation_tree o = record {
  operation_type = o.operation_type;
  name = option_map name_tree o.name;
  variables = map (node_tree variable_definition_tree) o.variables.items;
  directives = directives_tree o.directives;
  set = typed_set_tree o.selection_set;
}

-- the same for nodes of operations
abbrev pub typed_operation_node : Node Operation → Placed Place (TypedOperation Place)
typed_operation_node = node_tree typed_operation_tree

abbrev pub typed_fragment_tree : Fragment → TypedFragment Place
typed_fragment_tree f = record {
  name = name_tree f.name;
  directives = directives_tree f.directives;
  set = typed_set_tree f.selection_set;
}

-- what contracts see of a map of operations, given the text of a key and the tree of an operation
abbrev pub operations_by : {K O : Type 0} → (K → List ℕ) → (O → Placed Place (TypedOperation Place)) → OperationMap K O → TypedOperations Place
operations_by text tree m = record { anonymous = option_map tree m.anonymous; named = entries_of text tree m.named }

abbrev pub typed_operations_tree : OperationMap NameValue (Node Operation) → TypedOperations Place
typed_operations_tree = operations_by name_text (node_tree typed_operation_tree)

abbrev pub typed_document_tree : ExecutableDocument → TypedDocumentTree Place
typed_document_tree d = record {
  anonymous = option_map (node_tree typed_operation_tree) d.operations.anonymous;
  named = entries_of name_text (node_tree typed_operation_tree) d.operations.named;
  fragments = entries_of name_text (node_tree typed_fragment_tree) d.fragments;
}
