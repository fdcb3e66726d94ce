use Rattle.std.proofs.Common.{◌≡◌, List, [], ◌∷◌, map, reverse, refl, sym, ap, subst, ◌∙◌}
use Rattle.std.specs.Option.{option_map}
use Rattle.std.proofs.lemmas.Result.{on_ok_weaker}
use Rattle.std.proofs.lemmas.Simd.{map-map}
use Rattle.graphql_names.specs.Placed.{node_tree}
use Rattle.tree_directives.specs.DirectiveTree.{directive_tree, directive_definition_tree}
use Rattle.schema_types.specs.TypeView.{name_text}
use Rattle.fault_data.specs.in_rule_definitions.Diagnostics.{RecursiveDirectiveDefinition}
use Rattle.fault_data.specs.in_rule_definitions.Faults.{wrong}
use Rattle.fault_data.specs.in_rule_definitions.PlacedFaults.{PlacedFault}
use Rattle.fault_data.specs.DiagnosticView.{plain_directive}
use Rattle.rule_cycles.specs.Labels.{along}
use Rattle.rule_cycles.specs.DirectiveFaults.{directives_of, AtHead, recursive_directive, use_trace, plain_use}
use Rattle.rule_cycles.specs.Trees.{schema_of}
use Rattle.rule_cycles.proofs.Numbering.{seen_entry}
use Rattle.rule_cycles.proofs.directive_faults.recursive_directive_definition.Goals as goal

pub returns-in-None : goal.returns-in-None
returns-in-None c =
    let s = schema_of c.args.judging.now in
    let seen =
    seen_entry (node_tree directive_definition_tree) c.args.judging.now.schema.now.directive_definitions c.args.root c.get_index.result c.get_index.ensures.entry
    ∙ ap (option_map (λ p. (name_text p.0.now, node_tree directive_definition_tree p.1.now))) c.in-None.is in
    ([], (subst (λ o. AtHead o (recursive_directive s c.args.root c.args.path.now) []) (sym seen) refl, refl))

pub returns-in_ok-name-in-Some : goal.returns-in_ok-name-in-Some
returns-in_ok-name-in-Some c =
    let s = schema_of c.args.judging.now in
    let seen =
    seen_entry (node_tree directive_definition_tree) c.args.judging.now.schema.now.directive_definitions c.args.root c.get_index.result c.get_index.ensures.entry
    ∙ ap (option_map (λ p. (name_text p.0.now, node_tree directive_definition_tree p.1.now))) c.in-Some.is in
    let traced : map (node_tree plain_directive) c.in_ok-trace-in-Some.trace.items ≡ map plain_use (use_trace s c.args.root c.args.path.now) =
    sym (map-map plain_use (node_tree directive_tree) c.in_ok-trace-in-Some.trace.items) ∙ ap (map plain_use) (c.in_ok-trace-in-Some.ensures ∙ (λ k. reverse (directives_of (along (λ i to. c.requires.labels i to k) c.args.root c.args.path.now)))) in
    let these : List PlacedFault = wrong c.head.result (RecursiveDirectiveDefinition c.in_ok-name-in-Some.name.text (map (node_tree plain_directive) c.in_ok-trace-in-Some.trace.items)) ∷ [] in
    let told = subst (λ o. AtHead o (recursive_directive s c.args.root c.args.path.now) these) (sym seen)
    (c.head.result, (c.head.ensures, λ i. wrong c.head.result (RecursiveDirectiveDefinition (c.in_ok-name-in-Some.ensures.same i).text (traced i)) ∷ [])) in
    on_ok_weaker c.tell.result (λ t. (these, (told, t))) c.tell.ensures.told
