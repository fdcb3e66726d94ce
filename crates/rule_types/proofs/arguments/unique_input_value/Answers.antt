use Rattle.std.proofs.Common.{[], ◌∷◌, Some, ap, ◌∙◌}
use Rattle.std.proofs.lemmas.Result.{on_ok_weaker}
use Rattle.std.specs.Option.{option_map}
use Rattle.graphql_names.specs.NameValue.{NameValue}
use Rattle.graphql_names.specs.Placed.{node_tree}
use Rattle.tree_directives.specs.DirectiveTree.{input_value_tree}
use Rattle.tree_directives.specs.declared.input_value.InputValueDefinition.{InputValueDefinition}
use Rattle.fault_data.specs.FaultView.{faults_of}
use Rattle.fault_data.specs.Room.{◌⊕◌}
use Rattle.fault_data.specs.in_rule_definitions.Diagnostics.{UniqueInputValue}
use Rattle.fault_data.specs.in_rule_definitions.Faults.{wrong}
use Rattle.fault_data.specs.in_rule_definitions.PlacedFaults.{PlacedFault}
use Rattle.rule_types.specs.FaultLists.{first_named}
use Rattle.rule_types.proofs.SeenFacts.{told_seen, place}
use Rattle.rule_types.proofs.arguments.unique_input_value.Goals as goal

pub returns-in_ok-clone-in-Some : goal.returns-in_ok-clone-in-Some
returns-in_ok-clone-in-Some c = λ before are.
    let first = c.in-Some.first.now in
    let named = ap (λ (n : NameValue). n.text) c.in_ok-clone-in-Some.ensures.same ∙ ap (λ (v : InputValueDefinition). v.name.text) c.content.ensures in
    let fault =
    (λ i. let fault : PlacedFault = wrong first (UniqueInputValue (named i) first (c.location.ensures i)) in fault ∷ [])
    ∙ told_seen before (node_tree input_value_tree c.args.argument.now) (Some first)
    (c.in-Some.ensures.value ∙ are c.content.result.now.name ∙ ap (λ (v : InputValueDefinition). option_map place (first_named before v.name.text)) c.content.ensures) in
    on_ok_weaker c.tell.result (λ told. told ∙ ap (λ l. faults_of c.args.faults.now ⊕ l) fault) c.tell.ensures.told
