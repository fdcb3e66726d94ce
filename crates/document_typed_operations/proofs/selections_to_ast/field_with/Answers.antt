use Rattle.std.proofs.Common.{◌≡◌, map, ap, ◌∙◌, rules}
use Rattle.std.specs.Option.{option_map}
use Rattle.graphql_names.proofs.Copies.{nodes-copies}
use Rattle.graphql_names.specs.Node.{content, place}
use Rattle.graphql_names.specs.Placed.{name_tree, node_tree}
use Rattle.tree_directives.specs.DirectiveTree.{argument_tree, directives_tree}
use Rattle.tree_operations.specs.SelectionParts.{field_head}
use Rattle.tree_operations.specs.declared.selection.Field.{Field}
use Rattle.document_typed_selections.specs.TypedParts.{typed_head}
use Rattle.document_typed_operations.proofs.Written.{field-written}
use Rattle.document_typed_operations.proofs.selections_to_ast.field_with.Goals as goal

pub returns : goal.returns
returns c =
    let n = c.in_ok-node_at.field-0 in
    let node = c.args.node.now in
    let same = c.in_ok-node_at.ensures.content in
    let copied = nodes-copies argument_tree _ _ c.in_ok-alias.ensures.2.0 in
    let alias : option_map name_tree c.in_ok-alias.alias ≡ option_map name_tree (content node).alias = search rules in
    let name : name_tree c.in_ok-alias.name ≡ name_tree (content node).name = search rules in
    let arguments : map (node_tree argument_tree) c.in_ok-alias.arguments.items ≡ map (node_tree argument_tree) (content node).arguments.items = search (rules, copied) in
    let directives : directives_tree c.in_ok-alias.directives ≡ directives_tree (content node).directives = search rules in
    field-written n (place node) (typed_head (content node)) c.args.selection_set c.in_ok-node_at.ensures.place
    (ap field_head same ∙ (λ i. record { alias = alias i; name = name i; arguments = arguments i; directives = directives i }))
    (ap (λ (f : Field). f.selection_set) same)
