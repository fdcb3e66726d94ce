use Rattle.std.proofs.Common.{◌<◌, ◌∷◌, [], ◌++◌, map, take, length, sym, ap, ◌∙◌, arith}
use Rattle.std.specs.Prelude.{fold}
use Rattle.std.proofs.lemmas.List.{map_more, map-append, take_all}
use Rattle.std.proofs.lemmas.Grind.{fold-append}
use Rattle.schema_components.specs.Given.{component_name_tree}
use Rattle.schema_building.specs.in_schema_types.TypeView.{extended_type}
use Rattle.graphql_schema.specs.Noting.{and_naming, naming}
use Rattle.graphql_schema.specs.ImplementersView.{implementers_at}
use Rattle.graphql_schema.proofs.implementers.note_type.Goals as goal

pub loop-interface-preserved : goal.loop-interface-preserved
loop-interface-preserved c = λ i.
    let xs = c.interfaces_of-interfaces.result.now in
    let k = c.loop-interface.interface-index in
    let x = c.interface-item.result in
    let h : k < length xs = omega arith in
    let say = naming c.is_object-is_object.result c.args.name.now.text in
    let before = map component_name_tree (take k xs) in
    let front = map_more component_name_tree xs k x h ∙ ap (λ y. before ++ component_name_tree y ∷ []) (sym c.interface-item.is) in
    c.in_ok-note_name.ensures i
    ∙ ap (λ o. and_naming i.text o (say (component_name_tree x))) (c.loop-interface.invariant i)
    ∙ sym (fold-append (and_naming i.text) (implementers_at c.args.noted.now i) (map say before) (say (component_name_tree x) ∷ []))
    ∙ ap (fold (and_naming i.text) (implementers_at c.args.noted.now i)) (sym (ap (map say) front ∙ map-append say before (component_name_tree x ∷ [])))

pub returns : goal.returns
returns c = λ i.
    let n = c.args.name.now.text in
    let own = (extended_type c.args.ty.now).interfaces in
    let all = ap (map component_name_tree) (take_all c.loop-interface.interface-index c.interfaces_of-interfaces.result.now c.loop-interface-test.false) ∙ c.interfaces_of-interfaces.ensures in
    c.loop-interface.invariant i
    ∙ ap (fold (and_naming i.text) (implementers_at c.args.noted.now i)) (ap (map (naming c.is_object-is_object.result n)) all ∙ ap (λ b. map (naming b n) own) c.is_object-is_object.ensures)
