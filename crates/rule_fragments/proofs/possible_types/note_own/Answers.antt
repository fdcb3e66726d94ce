use Rattle.std.proofs.Common.{Bool, [], map, ap, sym, subst, ◌∙◌, if◌then◌else◌}
use Rattle.std.specs.Prelude.{OnOk}
use Rattle.schema_components.specs.Given.{given_name}
use Rattle.schema_types.specs.TypeView.{extended_type}
use Rattle.rule_fragments.specs.Held.{AddsEntries}
use Rattle.rule_fragments.specs.Noting.{Notes, object_notes}
use Rattle.rule_fragments.proofs.possible_types.note_own.Goals as goal

pub returns-then-is_object : goal.returns-then-is_object
returns-then-is_object c =
    let n = c.args.name.now.text in
    let t = extended_type c.args.ty.now in
    let noted : Bool → Notes = λ b. if b then object_notes n (map given_name t.interfaces) else [] in
    subst (λ notes. OnOk c.note_object.result (AddsEntries c.args.noted.now.entries c.note_object.new.noted.entries notes))
    (ap (λ l. object_notes n (map given_name l)) c.interfaces_of.ensures ∙ sym (ap noted (sym c.is_object.ensures ∙ c.if-is_object.true))) c.note_object.ensures
