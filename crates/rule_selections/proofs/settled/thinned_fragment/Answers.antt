use Rattle.std.proofs.Common.{ap, subst, sym, ◌∙◌}
use Rattle.graphql_names.specs.Node.{content, place}
use Rattle.graphql_names.specs.Placed.{name_tree}
use Rattle.tree_directives.specs.DirectiveTree.{directives_tree}
use Rattle.document_typed_selections.specs.declared.selection.SelectionSet.{SelectionSet}
use Rattle.document_typed_operations.specs.TypedDocument.{typed_fragment_tree}
use Rattle.document_typed_operations.specs.declared.operation.Fragment.{Fragment}
use Rattle.rule_selections.specs.Telling.{terms_of, SettlesSet}
use Rattle.rule_selections.proofs.Thinning.{lies_in}
use Rattle.rule_selections.proofs.settled.thinned_fragment.Goals as goal

pub returns : goal.returns
returns c =
    let s = terms_of c.args.common.now in
    let n = c.in_ok-same_location.field-0 in
    let g = c.args.fragment.now in
    let made = c.in_ok-same_location.ensures.content in
    let own = c.content-own.ensures in
    let settles = subst (λ (x : SelectionSet). SettlesSet s x (content n).selection_set) (ap (λ (f : Fragment). f.selection_set) own)
    (subst (λ (x : SelectionSet). SettlesSet s c.content-own.result.now.selection_set x) (sym (ap (λ (f : Fragment). f.selection_set) made)) c.in_ok-selection_set.ensures) in
    lies_in s (typed_fragment_tree (content n)) (typed_fragment_tree (content g)) (place n) (place g)
    (ap (λ (f : Fragment). name_tree f.name) made ∙ ap name_tree c.in_ok-name.ensures.same ∙ ap (λ (f : Fragment). name_tree f.name) own)
    (ap (λ (f : Fragment). directives_tree f.directives) made ∙ c.in_ok-directives.ensures.cases ∙ ap (λ (f : Fragment). directives_tree f.directives) own)
    c.in_ok-same_location.ensures.place
    settles.0 settles.1
