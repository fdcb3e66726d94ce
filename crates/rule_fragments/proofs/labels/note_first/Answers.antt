use Rattle.rule_fragments.proofs.Labelled.{notes_new}
use Rattle.rule_fragments.proofs.labels.note_first.Goals as goal

pub returns-clause-noted : goal.returns-clause-noted
returns-clause-noted c = notes_new c.args.places.now c.insert.new.self c.in_ok-from_str.field-0 c.args.text.now c.args.place c.in_ok-from_str.ensures.ok c.in_default.ensures.value c.in_ok-insert.ensures.updates
