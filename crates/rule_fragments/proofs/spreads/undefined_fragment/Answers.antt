use Rattle.std.proofs.Common.{List, ◌∷◌, [], ap, sym, ◌∙◌, is_some}
use Rattle.std.proofs.lemmas.Result.{IfOk-equal}
use Rattle.graphql_names.specs.NameValue.{NameValue}
use Rattle.schema_types.specs.Addresses.{under}
use Rattle.document_typed_selections.specs.TypedTree.{typed_selection_tree}
use Rattle.document_typed_selections.specs.declared.selection.FragmentSpread.{FragmentSpread}
use Rattle.fault_data.specs.FaultView.{faults_of}
use Rattle.rule_definitions.specs.Room.{◌⊕◌}
use Rattle.rule_definitions.specs.Diagnostics.{UndefinedFragment}
use Rattle.rule_definitions.specs.Faults.{wrong}
use Rattle.rule_definitions.specs.PlacedFaults.{PlacedFault}
use Rattle.rule_reach.specs.Reach.{meant_fragments}
use Rattle.rule_fragments.proofs.Members.{known_under}
use Rattle.rule_fragments.proofs.Undefined.{untold, known_untold, unknown_told}
use Rattle.rule_fragments.proofs.spreads.undefined_fragment.Goals as goal

pub returns-in_default : goal.returns-in_default
returns-in_default c =
    let a = faults_of c.args.faults.now in
    ap (λ l. a ⊕ l) (untold (meant_fragments c.args.fragments.now) (typed_selection_tree c.args.selection.now) c.in_default.ensures)

pub returns-then-contains_key : goal.returns-then-contains_key
returns-then-contains_key c =
    let fragments = c.args.fragments.now in
    let name = c.content.result.now.fragment_name in
    let known = ap (λ (f : FragmentSpread). is_some (under f.fragment_name.text (meant_fragments fragments))) (sym c.content.ensures) ∙ sym (known_under fragments name) ∙ sym c.contains_key.ensures ∙ c.if-contains_key.true in
    let a = faults_of c.args.faults.now in
    ap (λ l. a ⊕ l) (known_untold (meant_fragments fragments) (typed_selection_tree c.args.selection.now) c.in-Some.spread.now c.in-Some.ensures known)

pub returns : goal.returns
returns c =
    let fragments = c.args.fragments.now in
    let name = c.content.result.now.fragment_name in
    let unknown = ap (λ (f : FragmentSpread). is_some (under f.fragment_name.text (meant_fragments fragments))) (sym c.content.ensures) ∙ sym (known_under fragments name) ∙ sym c.contains_key.ensures ∙ c.if-contains_key.false in
    let text = ap (λ (n : NameValue). n.text) c.in_ok-name.ensures.same ∙ ap (λ (f : FragmentSpread). f.fragment_name.text) c.content.ensures in
    IfOk-equal c.tell.result _ _ _ c.tell.ensures.told
    (ap (λ (l : List PlacedFault). faults_of c.args.faults.now ⊕ l) ((λ i. wrong (c.location-location.ensures i) (UndefinedFragment (text i)) ∷ [])
    ∙ unknown_told (meant_fragments fragments) (typed_selection_tree c.args.selection.now) c.in-Some.spread.now c.in-Some.ensures unknown))
