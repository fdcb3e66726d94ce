use Rattle.std.proofs.Common.{List, [], ◌∷◌, bytes_eq, ap, sym, ◌∙◌}
use Rattle.std.specs.List.{list_any}
use Rattle.std.proofs.lemmas.Result.{IfOk-equal}
use Rattle.graphql_names.specs.NameValue.{NameValue}
use Rattle.document_typed_operations.specs.declared.operation.Fragment.{Fragment}
use Rattle.fault_data.specs.FaultView.{faults_of}
use Rattle.rule_definitions.specs.Room.{◌⊕◌}
use Rattle.rule_definitions.specs.Diagnostics.{UnusedFragment}
use Rattle.rule_definitions.specs.Faults.{wrong}
use Rattle.rule_definitions.specs.PlacedFaults.{PlacedFault}
use Rattle.rule_reach.specs.NotedNames.{noted_names}
use Rattle.rule_fragments.specs.SpreadViews.{fragment_meant}
use Rattle.rule_fragments.proofs.UnusedTold.{nothing_told, fault_told}
use Rattle.rule_fragments.proofs.unused.unused_fragment.Goals as goal

pub returns-then-has_name : goal.returns-then-has_name
returns-then-has_name c =
    let names = noted_names c.args.used.now in
    let a = faults_of c.args.faults.now in
    ap (λ l. a ⊕ l) (nothing_told names (fragment_meant c.args.fragment.now) (ap (λ (f : Fragment). list_any (bytes_eq f.name.text) names) (sym c.content.ensures) ∙ sym c.has_name.ensures ∙ c.if-has_name.true))

pub returns : goal.returns
returns c =
    let names = noted_names c.args.used.now in
    let text = ap (λ (n : NameValue). n.text) c.in_ok-name.ensures.same ∙ ap (λ (f : Fragment). f.name.text) c.content.ensures in
    IfOk-equal c.tell.result _ _ _ c.tell.ensures.told
    (ap (λ (l : List PlacedFault). faults_of c.args.faults.now ⊕ l) ((λ i. wrong (c.location-location.ensures i) (UnusedFragment (text i)) ∷ [])
    ∙ fault_told names (fragment_meant c.args.fragment.now) (ap (λ (f : Fragment). list_any (bytes_eq f.name.text) names) (sym c.content.ensures) ∙ sym c.has_name.ensures ∙ c.if-has_name.false)))
