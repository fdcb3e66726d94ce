use Rattle.std.proofs.Common.{◌++◌, map, option_to_list, ap, ◌∙◌, append_assoc}
use Rattle.std.specs.Option.{option_map}
use Rattle.graphql_names.specs.Placed.{node_tree}
use Rattle.schema_types.specs.in_components.Names.{entries_of}
use Rattle.schema_types.specs.TypeView.{name_text}
use Rattle.document_typed_selections.specs.in_definitions.DefinitionTree.{definition_tree}
use Rattle.document_typed_operations.specs.TypedDocument.{typed_operation_tree, typed_fragment_tree}
use Rattle.document_typed_operations.specs.ToAst.{ast_operation, ast_fragment}
use Rattle.document_typed_operations.proofs.Written.{values-written, optional-written}
use Rattle.document_typed_operations.proofs.to_ast.write_definitions.Goals as goal

pub returns : goal.returns
returns c =
    let d = c.args.document.now in
    let before = map definition_tree c.args.out.now.items in
    let unnamed = map ast_operation (option_to_list (option_map (node_tree typed_operation_tree) d.operations.anonymous)) in
    let named = map (λ e. ast_operation e.1) (entries_of name_text (node_tree typed_operation_tree) d.operations.named) in
    let fragments = map (λ e. ast_fragment e.1) (entries_of name_text (node_tree typed_fragment_tree) d.fragments) in
    let one = c.in_ok-write_anonymous.ensures ∙ (λ i. before ++ optional-written (node_tree typed_operation_tree) ast_operation d.operations.anonymous i) in
    let two = c.in_ok-write_operations.ensures ∙ (λ i. one i ++ (ap (map (λ n. ast_operation (node_tree typed_operation_tree n))) (c.as_slice.ensures ∙ c.values-named.ensures.rest) ∙ values-written (node_tree typed_operation_tree) ast_operation d.operations.named.entries) i) in
    c.in_ok-write_fragments.ensures
    ∙ (λ i. two i ++ (ap (map (λ n. ast_fragment (node_tree typed_fragment_tree n))) (c.as_slice-2.ensures ∙ c.values-fragments.ensures.rest) ∙ values-written (node_tree typed_fragment_tree) ast_fragment d.fragments.entries) i)
    ∙ ap (λ l. l ++ fragments) (append_assoc before unnamed named)
    ∙ append_assoc before (unnamed ++ named) fragments
