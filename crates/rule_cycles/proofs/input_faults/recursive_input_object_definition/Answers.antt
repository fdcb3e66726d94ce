use Rattle.std.proofs.Common.{◌≡◌, List, [], ◌∷◌, map, reverse, refl, sym, ap, ◌∙◌}
use Rattle.std.specs.Option.{option_map_or}
use Rattle.std.proofs.lemmas.Result.{on_ok_weaker}
use Rattle.std.proofs.lemmas.Simd.{map-map}
use Rattle.graphql_names.specs.Placed.{node_tree}
use Rattle.tree_directives.specs.DirectiveTree.{input_value_tree}
use Rattle.schema_types.specs.TypeView.{name_text, extended_type}
use Rattle.fault_data.specs.in_rule_definitions.Diagnostics.{RecursiveInputObjectDefinition}
use Rattle.fault_data.specs.in_rule_definitions.Faults.{wrong}
use Rattle.fault_data.specs.in_rule_definitions.PlacedFaults.{PlacedFault}
use Rattle.fault_data.specs.DiagnosticView.{plain_input}
use Rattle.rule_cycles.specs.Labels.{along}
use Rattle.rule_cycles.specs.FaultLists.{input_trace, plain_field}
use Rattle.rule_cycles.specs.Trees.{schema_of}
use Rattle.rule_cycles.proofs.Numbering.{found_entry}
use Rattle.rule_cycles.proofs.input_faults.recursive_input_object_definition.Goals as goal

pub returns-in-None : goal.returns-in-None
returns-in-None c =
    let s = schema_of c.args.judging.now in
    let fields = map (plain_field s) (input_trace s c.args.root c.args.path.now) in
    let told = found_entry extended_type (λ e. wrong e.1.place (RecursiveInputObjectDefinition e.0 fields) ∷ []) [] c.args.judging.now.schema.now.types c.args.root c.get_index.result c.get_index.ensures.entry
    ∙ ap (λ r. option_map_or (λ p. wrong (extended_type p.1.now).place (RecursiveInputObjectDefinition (name_text p.0.now) fields) ∷ []) r []) c.in-None.is in
    ([], (sym told, refl))

pub returns-in_ok-name-in-Some : goal.returns-in_ok-name-in-Some
returns-in_ok-name-in-Some c =
    let s = schema_of c.args.judging.now in
    let fields = map (plain_field s) (input_trace s c.args.root c.args.path.now) in
    let traced : map (node_tree plain_input) c.in_ok-trace-in-Some.trace.items ≡ fields =
    sym (map-map (plain_field s) (node_tree input_value_tree) c.in_ok-trace-in-Some.trace.items) ∙ ap (map (plain_field s)) (c.in_ok-trace-in-Some.ensures ∙ (λ k. reverse (along (λ i to. c.requires.labels i to k) c.args.root c.args.path.now))) in
    let these : List PlacedFault = wrong c.location.result (RecursiveInputObjectDefinition c.in_ok-name-in-Some.name.text (map (node_tree plain_input) c.in_ok-trace-in-Some.trace.items)) ∷ [] in
    let told = (λ i. wrong (c.location.ensures i) (RecursiveInputObjectDefinition (c.in_ok-name-in-Some.ensures.same i).text (traced i)) ∷ [])
    ∙ sym (found_entry extended_type (λ e. wrong e.1.place (RecursiveInputObjectDefinition e.0 fields) ∷ []) [] c.args.judging.now.schema.now.types c.args.root c.get_index.result c.get_index.ensures.entry
    ∙ ap (λ r. option_map_or (λ p. wrong (extended_type p.1.now).place (RecursiveInputObjectDefinition (name_text p.0.now) fields) ∷ []) r []) c.in-Some.is) in
    on_ok_weaker c.tell.result (λ t. (these, (told, t))) c.tell.ensures.told
