use Rattle.std.proofs.Common.{◌≡◌, ◌∙◌, ap, rules}
use Rattle.graphql_names.specs.Node.{content}
use Rattle.graphql_names.proofs.Copies.{nodes-copies}
use Rattle.tree_directives.specs.DirectiveTree.{argument_tree}
use Rattle.document_typed_selections.specs.TypedTree.{typed_set_tree}
use Rattle.document_typed_selections.specs.TypedParts.{own_definition, typed_head}
use Rattle.document_typed_selections.specs.declared.selection.Field.{Field}
use Rattle.spec_document.specs.MeantTree.{meant_of_set}
use Rattle.rule_selections.specs.Settled.{filled}
use Rattle.rule_selections.proofs.Thinning.{field_with}
use Rattle.rule_selections.proofs.thinned.field_with.Goals as goal

pub returns : goal.returns
returns c =
    let n = c.in_ok-same_location.field-0 in
    let f = c.args.field.now in
    let same = c.in_ok-same_location.ensures.content in
    let own = c.content-own.ensures in
    let left = meant_of_set (typed_set_tree c.args.left) in
    let arguments = nodes-copies argument_tree _ _ c.in_ok-arguments.ensures.0.0 in
    let alias = c.in_ok-definition.ensures.1 in
    let name = c.in_ok-definition.ensures.2 in
    let directives = c.in_ok-arguments.ensures.1 in
    let definition : own_definition (content n) ≡ own_definition c.content-own.result.now = ap own_definition same ∙ search rules in
    let head : typed_head (content n) ≡ typed_head c.content-own.result.now = ap typed_head same ∙ search (rules, arguments) in
    field_with f n left c.in_ok-same_location.ensures.place (definition ∙ ap own_definition own) (head ∙ ap typed_head own)
    (ap (λ (x : Field). meant_of_set (typed_set_tree x.selection_set)) same ∙ c.in_ok-selection_set.ensures ∙ ap (λ (x : Field). filled (meant_of_set (typed_set_tree x.selection_set)) left) own)
