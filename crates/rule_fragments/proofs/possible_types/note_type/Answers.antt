use Rattle.std.proofs.Common.{map, subst}
use Rattle.std.proofs.lemmas.Result.{on_ok_weaker}
use Rattle.schema_components.specs.Given.{given_name}
use Rattle.schema_types.specs.TypeView.{extended_type}
use Rattle.rule_cycles.specs.in_schema.SchemaOf.{schema_tree}
use Rattle.rule_fragments.specs.Held.{AddsEntries}
use Rattle.rule_fragments.specs.Noting.{own_notes, member_notes}
use Rattle.rule_fragments.proofs.Noted.{both_notes}
use Rattle.rule_fragments.proofs.possible_types.note_type.Goals as goal

pub returns : goal.returns
returns c =
    let s = schema_tree c.args.schema.now in
    let n = c.args.name.now.text in
    let t = extended_type c.args.ty.now in
    let a = c.args.noted.now.entries in
    let b = c.note_own.new.noted.entries in
    let e = c.note_members.new.noted.entries in
    on_ok_weaker c.note_members.result
    (λ h. both_notes a b e (own_notes (n, t)) (member_notes s n (map given_name t.members)) c.in_ok-note_own.ensures
    (subst (λ l. AddsEntries b e (member_notes s n (map given_name l))) c.members_of.ensures h))
    c.note_members.ensures
