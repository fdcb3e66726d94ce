use Rattle.document_typed_operations.proofs.Standings.{noted_some, noted_none}
use Rattle.rule_field_sets.proofs.found.note_place.Goals as goal

pub returns-in_ok-insert : goal.returns-in_ok-insert
returns-in_ok-insert c = noted_some c.args.fragments.now.entries c.args.name.now.text c.args.places.now.keys c.insert.new.self.keys c.in-Some.place c.in-Some.ensures.index c.in_ok-insert.ensures.keys

pub returns-in_default : goal.returns-in_default
returns-in_default c = noted_none c.args.fragments.now.entries c.args.name.now.text c.args.places.now.keys c.in_default.ensures.index
