-- A document under a schema as it is written, without definitions and types: its operations, one without a name first, and then its fragments, each in order (GraphQL, October 2021, sections 2.2, 2.3 and 2.8).
use Rattle.std.specs.Prelude.{List, ◌++◌, map, option_to_list}
use Rattle.graphql_names.specs.Placed.{Placed}
use Rattle.tree_operations.specs.SelectionTree.{SelectionTree, FieldTree, SpreadTree, InlineTree, SelectionTrees, no_selections, selection_then}
use Rattle.tree_operations.specs.OperationTree.{OperationTree, FragmentTree}
use Rattle.document_typed_selections.specs.in_definitions.DefinitionTree.{DefinitionTree, Operation, Fragment}
use Rattle.document_typed_selections.specs.TypedTree.{TypedSelection, TypedField, TypedSpread, TypedInline, TypedSet, typed_set, TypedSelections, no_typed, typed_then, set_type}
use Rattle.document_typed_operations.specs.TypedDocument.{TypedOperation, TypedFragment, TypedDocumentTree}

-- selections without definitions and types
abbrev mutual
  pub ast_selection : {P : Type 0} → TypedSelection P → SelectionTree P
  ast_selection (TypedField p d h s) = FieldTree p h (ast_set s)
  ast_selection (TypedSpread p n ds) = SpreadTree p n ds
  ast_selection (TypedInline p c ds s) = InlineTree p c ds (ast_set s)

  pub ast_set : {P : Type 0} → TypedSet P → SelectionTrees P
  ast_set (typed_set ty ss) = ast_selections ss

  pub ast_selections : {P : Type 0} → TypedSelections P → SelectionTrees P
  ast_selections no_typed = no_selections
  ast_selections (typed_then s ss) = selection_then (ast_selection s) (ast_selections ss)

module _ {P : Type 0} where
  -- an operation with these selections
  abbrev pub operation_with : TypedOperation P → SelectionTrees P → OperationTree P
  operation_with o selections = record {
    operation_type = o.operation_type;
    name = o.name;
    variables = o.variables;
    directives = o.directives;
    selections = selections;
  }

  -- a fragment with these selections; its type condition is the type of its set
  abbrev pub fragment_with : TypedFragment P → SelectionTrees P → FragmentTree P
  fragment_with f selections = record {
    name = f.name;
    type_condition = set_type f.set;
    directives = f.directives;
    selections = selections;
  }

  abbrev pub ast_operation : Placed P (TypedOperation P) → DefinitionTree P
  ast_operation n = Operation n.place (operation_with n.it (ast_set n.it.set))

  abbrev pub ast_fragment : Placed P (TypedFragment P) → DefinitionTree P
  ast_fragment n = Fragment n.place (fragment_with n.it (ast_set n.it.set))

  abbrev pub ast_document : TypedDocumentTree P → List (DefinitionTree P)
  ast_document d = map ast_operation (option_to_list d.anonymous) ++ map (λ e. ast_operation e.1) d.named ++ map (λ e. ast_fragment e.1) d.fragments
