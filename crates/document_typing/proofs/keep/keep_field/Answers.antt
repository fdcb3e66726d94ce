use Rattle.std.proofs.Common.{◌≡◌, [], ◌∷◌, ◌++◌, map, ap, ◌∙◌, rules}
use Rattle.std.proofs.lemmas.List.{map-append}
use Rattle.graphql_names.specs.Node.{content}
use Rattle.graphql_names.specs.Placed.{name_tree}
use Rattle.graphql_names.proofs.Copies.{nodes-copies}
use Rattle.tree_directives.specs.DirectiveTree.{argument_tree}
use Rattle.tree_operations.specs.SelectionParts.{field_head}
use Rattle.document_typed_selections.specs.TypedTree.{typed_selection_tree}
use Rattle.document_typed_selections.specs.TypedParts.{typed_head}
use Rattle.document_typed_selections.specs.declared.selection.Field.{Field}
use Rattle.document_typed_selections.specs.declared.selection.Selection.TheViews.{Field as Field'}
use Rattle.document_typing.specs.MeantTree.{meant}
use Rattle.document_typing.specs.MeaningView.{meant_selections}
use Rattle.document_typing.proofs.MeantSets.{field-meant}
use Rattle.document_typing.proofs.DefinedPlaces.{kept-push, field-defined}
use Rattle.document_typing.proofs.keep.keep_field.Goals as goal

pub returns-clause-meant : goal.returns-clause-meant
returns-clause-meant c =
    let n = c.in_ok-same_location.field-0 in
    let same = c.in_ok-same_location.ensures.content in
    let alias = c.in_ok-alias.ensures.0 in
    let name = c.in_ok-alias.ensures.1 in
    let directives = c.in_ok-alias.ensures.3 in
    let arguments = nodes-copies argument_tree _ _ c.in_ok-alias.ensures.2.0 in
    let head : typed_head (content n) ≡ field_head c.content-tree.result.now = ap typed_head same ∙ search (rules, arguments) in
    ap (map (λ s. meant (typed_selection_tree s))) c.in_ok-push.ensures.items
    ∙ map-append (λ s. meant (typed_selection_tree s)) c.args.kept.now.items (Field' n ∷ [])
    ∙ ap (λ x. meant_selections c.args.kept.now ++ x ∷ [])
    (field-meant n _ _ _ _ c.in_ok-same_location.ensures.place
    (ap (λ (f : Field). f.definition) same)
    (head ∙ ap field_head c.content-tree.ensures)
    (ap (λ (f : Field). f.selection_set) same))

pub returns-clause-defined : goal.returns-clause-defined
returns-clause-defined c s t d x h =
    let n = c.in_ok-same_location.field-0 in
    let same = c.in_ok-same_location.ensures.content in
    let name : name_tree (content n).name ≡ name_tree (content c.args.field.now).name = ap (λ (f : Field). name_tree f.name) same ∙ search rules in
    kept-push s t c.args.kept.now c.push.new.self (Field' n) c.in_ok-push.ensures.items
    (field-defined s t n c.args.definition (name_tree (content c.args.field.now).name) c.args.set
    (ap (λ (f : Field). f.definition) same) name (ap (λ (f : Field). f.selection_set) same) d x) h
