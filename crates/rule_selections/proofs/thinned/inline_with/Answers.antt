use Rattle.std.proofs.Common.{◌≡◌, ◌∙◌, ap, rules}
use Rattle.std.specs.Option.{option_map}
use Rattle.graphql_names.specs.Node.{content}
use Rattle.graphql_names.specs.Placed.{name_tree}
use Rattle.tree_directives.specs.DirectiveTree.{directives_tree}
use Rattle.document_typed_selections.specs.declared.selection.InlineFragment.{InlineFragment}
use Rattle.rule_selections.proofs.Thinning.{inline_with}
use Rattle.rule_selections.proofs.thinned.inline_with.Goals as goal

pub returns : goal.returns
returns c =
    let n = c.in_ok-same_location.field-0 in
    let same = c.in_ok-same_location.ensures.content in
    let own = c.content-own.ensures in
    let condition : option_map name_tree (content n).type_condition ≡ option_map name_tree c.content-own.result.now.type_condition = ap (λ (x : InlineFragment). option_map name_tree x.type_condition) same ∙ search rules in
    let directives : directives_tree (content n).directives ≡ directives_tree c.content-own.result.now.directives = ap (λ (x : InlineFragment). directives_tree x.directives) same ∙ search rules in
    inline_with c.args.inline.now n c.args.left c.in_ok-same_location.ensures.place (condition ∙ ap (λ (x : InlineFragment). option_map name_tree x.type_condition) own)
    (directives ∙ ap (λ (x : InlineFragment). directives_tree x.directives) own) (ap (λ (x : InlineFragment). x.selection_set) same)
