use Rattle.std.proofs.Common.{◌∷◌, [], codes, refl, ap, ◌∙◌}
use Rattle.std.proofs.lemmas.Result.{on_ok_weaker}
use Rattle.graphql_names.specs.NameValue.{NameValue}
use Rattle.document_typed_operations.specs.declared.operation.Fragment.{Fragment}
use Rattle.rule_definitions.specs.Diagnostics.{DeeplyNestedType}
use Rattle.rule_definitions.specs.Faults.{wrong}
use Rattle.rule_definitions.specs.PlacedFaults.{PlacedFault}
use Rattle.rule_fragments.specs.SpreadViews.{fragment_meant}
use Rattle.rule_fragments.specs.CycleFaults.{IsDeepFault}
use Rattle.rule_fragments.proofs.cycle_faults.deeply_nested_fragment.Goals as goal

pub returns : goal.returns
returns c =
    let text = ap (λ (n : NameValue). n.text) c.in_ok-name.ensures.same ∙ ap (λ (f : Fragment). f.name.text) c.content.ensures in
    let x : PlacedFault = wrong c.head-location.result (DeeplyNestedType c.in_ok-name.name.text (codes "fragment")) in
    let says : IsDeepFault (fragment_meant c.args.fragment.now) x = (c.head-location.result, (c.head-location.ensures, λ i. wrong c.head-location.result (DeeplyNestedType (text i) (codes "fragment")))) in
    on_ok_weaker c.tell.result (λ told. (x ∷ [], ((x, (says, refl)), told))) c.tell.ensures.told
