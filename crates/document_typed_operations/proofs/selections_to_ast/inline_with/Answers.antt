use Rattle.std.proofs.Common.{◌≡◌, ap, ◌∙◌, rules}
use Rattle.std.specs.Option.{option_map}
use Rattle.graphql_names.specs.Node.{content, place}
use Rattle.graphql_names.specs.Placed.{name_tree}
use Rattle.tree_directives.specs.DirectiveTree.{directives_tree}
use Rattle.tree_operations.specs.declared.selection.InlineFragment.{InlineFragment}
use Rattle.document_typed_operations.proofs.Written.{inline-written}
use Rattle.document_typed_operations.proofs.selections_to_ast.inline_with.Goals as goal

pub returns : goal.returns
returns c =
    let n = c.in_ok-node_at.field-0 in
    let node = c.args.node.now in
    let same = c.in_ok-node_at.ensures.content in
    let condition : option_map name_tree c.in_ok-type_condition.type_condition ≡ option_map name_tree (content node).type_condition = search rules in
    let directives : directives_tree c.in_ok-type_condition.directives ≡ directives_tree (content node).directives = search rules in
    inline-written n (place node) (option_map name_tree (content node).type_condition) (directives_tree (content node).directives) c.args.selection_set c.in_ok-node_at.ensures.place
    (ap (λ (f : InlineFragment). option_map name_tree f.type_condition) same ∙ condition)
    (ap (λ (f : InlineFragment). directives_tree f.directives) same ∙ directives)
    (ap (λ (f : InlineFragment). f.selection_set) same)
