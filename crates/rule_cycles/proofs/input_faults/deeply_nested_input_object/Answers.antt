use Rattle.std.proofs.Common.{List, [], ◌∷◌, codes, refl, sym, ap, ◌∙◌}
use Rattle.std.specs.Option.{option_map_or}
use Rattle.std.proofs.lemmas.Result.{on_ok_weaker}
use Rattle.schema_types.specs.TypeView.{name_text, extended_type}
use Rattle.fault_data.specs.in_rule_definitions.Diagnostics.{DeeplyNestedType}
use Rattle.fault_data.specs.in_rule_definitions.Faults.{wrong}
use Rattle.fault_data.specs.in_rule_definitions.PlacedFaults.{PlacedFault}
use Rattle.rule_cycles.proofs.Numbering.{found_entry}
use Rattle.rule_cycles.proofs.input_faults.deeply_nested_input_object.Goals as goal

pub returns-in-None : goal.returns-in-None
returns-in-None c =
    let told = found_entry extended_type (λ e. wrong e.1.place (DeeplyNestedType e.0 (codes "input object")) ∷ []) [] c.args.judging.now.schema.now.types c.args.root c.get_index.result c.get_index.ensures.entry
    ∙ ap (λ r. option_map_or (λ p. wrong (extended_type p.1.now).place (DeeplyNestedType (name_text p.0.now) (codes "input object")) ∷ []) r []) c.in-None.is in
    ([], (sym told, refl))

pub returns-in_ok-name-in-Some : goal.returns-in_ok-name-in-Some
returns-in_ok-name-in-Some c =
    let these : List PlacedFault = wrong c.location.result (DeeplyNestedType c.in_ok-name-in-Some.name.text (codes "input object")) ∷ [] in
    let told = (λ i. wrong (c.location.ensures i) (DeeplyNestedType (c.in_ok-name-in-Some.ensures.same i).text (codes "input object")) ∷ [])
    ∙ sym (found_entry extended_type (λ e. wrong e.1.place (DeeplyNestedType e.0 (codes "input object")) ∷ []) [] c.args.judging.now.schema.now.types c.args.root c.get_index.result c.get_index.ensures.entry
    ∙ ap (λ r. option_map_or (λ p. wrong (extended_type p.1.now).place (DeeplyNestedType (name_text p.0.now) (codes "input object")) ∷ []) r []) c.in-Some.is) in
    on_ok_weaker c.tell.result (λ t. (these, (told, t))) c.tell.ensures.told
