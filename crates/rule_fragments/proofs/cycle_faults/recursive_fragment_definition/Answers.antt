use Rattle.std.proofs.Common.{◌∷◌, [], map, refl, ap, ◌∙◌}
use Rattle.std.proofs.lemmas.Result.{on_ok_weaker}
use Rattle.graphql_names.specs.NameValue.{NameValue}
use Rattle.document_typed_operations.specs.declared.operation.Fragment.{Fragment}
use Rattle.rule_definitions.specs.Diagnostics.{RecursiveFragmentDefinition}
use Rattle.rule_definitions.specs.Faults.{wrong}
use Rattle.rule_definitions.specs.PlacedFaults.{PlacedFault}
use Rattle.rule_fragments.specs.SpreadViews.{fragment_meant, spread_tree}
use Rattle.rule_fragments.specs.CycleFaults.{spread_trace, IsRecursiveFault}
use Rattle.rule_fragments.proofs.cycle_faults.recursive_fragment_definition.Goals as goal

pub returns : goal.returns
returns c =
    let text = ap (λ (n : NameValue). n.text) c.in_ok-name.ensures.same ∙ ap (λ (f : Fragment). f.name.text) c.content.ensures in
    let x : PlacedFault = wrong c.location-location.result (RecursiveFragmentDefinition c.head.result c.in_ok-name.name.text (map spread_tree c.in_ok-trace.trace.items)) in
    let says : IsRecursiveFault (spread_trace c.args.references.now c.args.root c.args.path.now) (fragment_meant c.args.fragment.now) x = (c.head.result, (c.head.ensures, λ i. wrong (c.location-location.ensures i) (RecursiveFragmentDefinition c.head.result (text i) (c.in_ok-trace.ensures i)))) in
    on_ok_weaker c.tell.result (λ told. (x ∷ [], ((x, (says, refl)), told))) c.tell.ensures.told
