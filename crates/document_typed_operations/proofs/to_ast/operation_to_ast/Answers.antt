use Rattle.std.proofs.Common.{◌≡◌, map, ap, ◌∙◌, rules}
use Rattle.std.specs.Option.{option_map}
use Rattle.graphql_names.proofs.Copies.{nodes-copies}
use Rattle.graphql_names.specs.Node.{content, place}
use Rattle.graphql_names.specs.Placed.{name_tree, node_tree}
use Rattle.tree_directives.specs.DirectiveTree.{directives_tree}
use Rattle.tree_operations.specs.SelectionTree.{selection_tree, selection_trees}
use Rattle.tree_operations.specs.OperationTree.{operation_tree, variable_definition_tree}
use Rattle.document_typed_selections.specs.in_definitions.DefinitionTree.{Operation as Written}
use Rattle.document_typed_selections.specs.TypedTree.{typed_set_tree}
use Rattle.document_typed_operations.specs.ToAst.{ast_set}
use Rattle.document_typed_operations.specs.declared.operation.Operation.{Operation}
use Rattle.document_typed_operations.proofs.to_ast.operation_to_ast.Goals as goal

pub returns : goal.returns
returns c =
    let node = c.args.node.now in
    let here = c.content-operation.ensures in
    let same = c.in_ok-node_at.ensures.content in
    let copied = nodes-copies variable_definition_tree _ _ c.in_ok-name.ensures.1.0 in
    let name : option_map name_tree c.in_ok-name.name ≡ option_map name_tree (content node).name = search rules in
    let variables : map (node_tree variable_definition_tree) c.in_ok-name.variables.items ≡ map (node_tree variable_definition_tree) (content node).variables.items = search (rules, copied) in
    let directives : directives_tree c.in_ok-name.directives ≡ directives_tree (content node).directives = search rules in
    let set : selection_trees selection_tree c.in_ok-selection_set.selection_set.items ≡ ast_set (typed_set_tree (content node).selection_set) = c.in_ok-selection_set.ensures ∙ ap (λ (o : Operation). ast_set (typed_set_tree o.selection_set)) here in
    (λ i. Written (c.in_ok-node_at.ensures.place i) (operation_tree (same i)))
    ∙ (λ i. Written (place node) (record { operation_type = (here i).operation_type; name = name i; variables = variables i; directives = directives i; selections = set i }))
