use Rattle.std.proofs.Common.{List, [], ◌∷◌, codes, refl, sym, ap, subst, ◌∙◌}
use Rattle.std.specs.Option.{option_map}
use Rattle.std.proofs.lemmas.Result.{on_ok_weaker}
use Rattle.graphql_names.specs.Placed.{node_tree}
use Rattle.tree_directives.specs.DirectiveTree.{directive_definition_tree}
use Rattle.schema_types.specs.TypeView.{name_text}
use Rattle.fault_data.specs.in_rule_definitions.Diagnostics.{DeeplyNestedType}
use Rattle.fault_data.specs.in_rule_definitions.Faults.{wrong}
use Rattle.fault_data.specs.in_rule_definitions.PlacedFaults.{PlacedFault}
use Rattle.rule_cycles.specs.DirectiveFaults.{AtHead, deep_directive}
use Rattle.rule_cycles.specs.Trees.{schema_of}
use Rattle.rule_cycles.proofs.Numbering.{seen_entry}
use Rattle.rule_cycles.proofs.directive_faults.deeply_nested_directive.Goals as goal

pub returns-in-None : goal.returns-in-None
returns-in-None c =
    let s = schema_of c.args.judging.now in
    let seen =
    seen_entry (node_tree directive_definition_tree) c.args.judging.now.schema.now.directive_definitions c.args.root c.get_index.result c.get_index.ensures.entry
    ∙ ap (option_map (λ p. (name_text p.0.now, node_tree directive_definition_tree p.1.now))) c.in-None.is in
    ([], (subst (λ o. AtHead o (deep_directive s) []) (sym seen) refl, refl))

pub returns-in_ok-name-in-Some : goal.returns-in_ok-name-in-Some
returns-in_ok-name-in-Some c =
    let s = schema_of c.args.judging.now in
    let seen =
    seen_entry (node_tree directive_definition_tree) c.args.judging.now.schema.now.directive_definitions c.args.root c.get_index.result c.get_index.ensures.entry
    ∙ ap (option_map (λ p. (name_text p.0.now, node_tree directive_definition_tree p.1.now))) c.in-Some.is in
    let these : List PlacedFault = wrong c.head.result (DeeplyNestedType c.in_ok-name-in-Some.name.text (codes "directive")) ∷ [] in
    let told = subst (λ o. AtHead o (deep_directive s) these) (sym seen) (c.head.result, (c.head.ensures, λ i. wrong c.head.result (DeeplyNestedType (c.in_ok-name-in-Some.ensures.same i).text (codes "directive")) ∷ [])) in
    on_ok_weaker c.tell.result (λ t. (these, (told, t))) c.tell.ensures.told
