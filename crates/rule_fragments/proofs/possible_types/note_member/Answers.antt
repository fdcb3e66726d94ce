use Rattle.std.proofs.Common.{Bool, [], ◌∷◌, ap, sym, subst, ◌∙◌, if◌then◌else◌}
use Rattle.std.specs.Prelude.{OnOk}
use Rattle.rule_fragments.specs.Held.{AddsEntries}
use Rattle.rule_fragments.specs.Noting.{Notes}
use Rattle.rule_fragments.proofs.possible_types.note_member.Goals as goal

pub returns-then-is_object : goal.returns-then-is_object
returns-then-is_object c =
    let noted : Bool → Notes = λ b. if b then (c.args.name.now.text, c.args.member.now.text) ∷ [] else [] in
    subst (λ notes. OnOk c.note.result (AddsEntries c.args.noted.now.entries c.note.new.noted.entries notes)) (sym (ap noted (sym c.is_object.ensures ∙ c.if-is_object.true))) c.note.ensures
