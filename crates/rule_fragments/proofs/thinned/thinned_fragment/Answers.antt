use Rattle.std.proofs.Common.{ap, subst, sym}
use Rattle.graphql_names.specs.Node.{content}
use Rattle.spec_document.specs.MeantTree.{meant_of_set}
use Rattle.document_typed_selections.specs.TypedTree.{typed_set_tree}
use Rattle.document_typed_selections.specs.declared.selection.SelectionSet.{SelectionSet}
use Rattle.document_typed_operations.specs.declared.operation.Fragment.{Fragment}
use Rattle.rule_fragments.specs.Thinned.{Leaves}
use Rattle.rule_fragments.proofs.thinned.thinned_fragment.Goals as goal

pub returns : goal.returns
returns c =
    let d = c.args.deferred in
    let n = c.in_ok-same_location.field-0 in
    subst (λ (x : SelectionSet). Leaves d (meant_of_set (typed_set_tree (content n).selection_set)) (meant_of_set (typed_set_tree x))) (ap (λ (f : Fragment). f.selection_set) c.content-own.ensures)
    (subst (λ (x : SelectionSet). Leaves d (meant_of_set (typed_set_tree x)) (meant_of_set (typed_set_tree c.content-own.result.now.selection_set))) (sym (ap (λ (f : Fragment). f.selection_set) c.in_ok-same_location.ensures.content)) c.in_ok-selection_set.ensures)
