use Rattle.std.proofs.Common.{◌<◌, [], map, take, length, subst, arith}
use Rattle.std.proofs.lemmas.List.{take_all}
use Rattle.schema_components.specs.Given.{component_name_tree, given_name}
use Rattle.rule_cycles.specs.in_schema.SchemaOf.{schema_tree}
use Rattle.rule_fragments.specs.Held.{AddsNotes}
use Rattle.rule_fragments.specs.Noting.{member_note, member_notes}
use Rattle.rule_fragments.proofs.Noted.{no_notes, more_notes, names_more}
use Rattle.rule_fragments.proofs.possible_types.note_members.Goals as goal

pub loop-member-init : goal.loop-member-init
loop-member-init c = no_notes c.args.noted.now.entries

pub loop-member-preserved : goal.loop-member-preserved
loop-member-preserved c =
    let n = c.args.name.now.text in
    let xs = c.args.members.now in
    let i = c.loop-member.member-index in
    let x = c.member-item.result in
    let h : i < length xs = omega arith in
    more_notes (member_note (schema_tree c.args.schema.now) n) c.args.noted.now.entries c.loop-member.noted.entries c.note_member.new.noted.entries []
    (map given_name (map component_name_tree (take i xs))) _ x.name.text (names_more xs i x h c.member-item.is)
    c.loop-member.invariant c.in_ok-note_member.ensures

pub returns : goal.returns
returns c =
    subst (λ l. AddsNotes c.args.noted.now c.loop-member.noted (member_notes (schema_tree c.args.schema.now) c.args.name.now.text (map given_name (map component_name_tree l))))
    (take_all c.loop-member.member-index c.args.members.now c.loop-member-test.false) c.loop-member.invariant
