use Rattle.std.proofs.Common.{◌<◌, ◌∷◌, [], map, take, length, subst, arith}
use Rattle.std.proofs.lemmas.List.{take_all}
use Rattle.schema_components.specs.Given.{component_name_tree, given_name}
use Rattle.rule_fragments.specs.Held.{AddsNotes}
use Rattle.rule_fragments.specs.Noting.{object_notes}
use Rattle.rule_fragments.proofs.Noted.{more_notes, names_more}
use Rattle.rule_fragments.proofs.possible_types.note_object.Goals as goal

pub loop-interface-preserved : goal.loop-interface-preserved
loop-interface-preserved c =
    let n = c.args.name.now.text in
    let xs = c.args.interfaces.now in
    let i = c.loop-interface.interface-index in
    let x = c.interface-item.result in
    let h : i < length xs = omega arith in
    more_notes (λ i. (i, n) ∷ []) c.args.noted.now.entries c.loop-interface.noted.entries c.note-in-loop-interface.new.noted.entries ((n, n) ∷ [])
    (map given_name (map component_name_tree (take i xs))) _ x.name.text (names_more xs i x h c.interface-item.is)
    c.loop-interface.invariant c.in_ok-note-2.ensures

pub returns : goal.returns
returns c =
    subst (λ l. AddsNotes c.args.noted.now c.loop-interface.noted (object_notes c.args.name.now.text (map given_name (map component_name_tree l))))
    (take_all c.loop-interface.interface-index c.args.interfaces.now c.loop-interface-test.false) c.loop-interface.invariant
