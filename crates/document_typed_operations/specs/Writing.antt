-- Private: leads to `ToAst.antt`. What is written for the parts of a document as the program has them.
use Rattle.std.specs.Prelude.{◌≡◌, ◌++◌, List, map, Vec}
use Rattle.std.specs.Option.{option_map}
use Rattle.std.specs.declared.alloc.Global.{Global}
use Rattle.graphql_names.specs.Node.{content, place}
use Rattle.graphql_names.specs.Placed.{Place, name_tree, node_tree}
use Rattle.graphql_names.specs.declared.node.Node.{Node}
use Rattle.tree_directives.specs.DirectiveTree.{directives_tree}
use Rattle.tree_operations.specs.SelectionTree.{SelectionTree, FieldTree, InlineTree, selection_tree, selection_trees}
use Rattle.tree_operations.specs.declared.selection.Selection.{Selection}
use Rattle.document_typed_selections.specs.in_definitions.DefinitionTree.{DefinitionTree, definition_tree}
use Rattle.document_typed_selections.specs.in_definitions.declared.definition.Definition.{Definition}
use Rattle.document_typed_selections.specs.TypedParts.{typed_head}
use Rattle.document_typed_selections.specs.declared.selection.Field.{Field}
use Rattle.document_typed_selections.specs.declared.selection.InlineFragment.{InlineFragment}
use Rattle.document_typed_operations.specs.TypedDocument.{typed_operation_tree, typed_fragment_tree}
use Rattle.document_typed_operations.specs.ToAst.{ast_operation, ast_fragment}
use Rattle.document_typed_operations.specs.declared.operation.Operation.{Operation}
use Rattle.document_typed_operations.specs.declared.operation.Fragment.{Fragment}

-- a field and an inline fragment as they are written, with these selections
abbrev pub field_with : Node Field → Vec Selection Global → SelectionTree Place
field_with node selections = FieldTree (place node) (typed_head (content node)) (selection_trees selection_tree selections.items)

abbrev pub inline_with : Node InlineFragment → Vec Selection Global → SelectionTree Place
inline_with node selections = InlineTree (place node) (option_map name_tree (content node).type_condition) (directives_tree (content node).directives) (selection_trees selection_tree selections.items)

-- the new definitions are the old ones followed by these
abbrev pub Writes : Vec Definition Global → Vec Definition Global → List (DefinitionTree Place) → Type 0
Writes old new written = map definition_tree new.items ≡ map definition_tree old.items ++ written

-- operations and fragments, each as it is written
abbrev pub written_operations : List (Node Operation) → List (DefinitionTree Place)
written_operations operations = map (λ n. ast_operation (node_tree typed_operation_tree n)) operations

abbrev pub written_fragments : List (Node Fragment) → List (DefinitionTree Place)
written_fragments fragments = map (λ n. ast_fragment (node_tree typed_fragment_tree n)) fragments
