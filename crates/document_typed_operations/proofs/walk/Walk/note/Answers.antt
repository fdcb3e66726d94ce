use Rattle.document_typed_operations.specs.WalkView.{walk_state}
use Rattle.document_typed_operations.proofs.Standings.{noted_as, noted_some, noted_none}
use Rattle.document_typed_operations.proofs.walk.Walk.note.Goals as goal

pub returns-in_ok-insert : goal.returns-in_ok-insert
returns-in_ok-insert c = noted_as (walk_state c.args.self.now) _ _
    (noted_some c.args.self.now.fragments.now.entries c.args.name.now.text c.args.self.now.noted.keys c.insert.new.self.keys c.in-Some.place c.in-Some.ensures.index c.in_ok-insert.ensures.keys)

pub returns-in_default : goal.returns-in_default
returns-in_default c = noted_as (walk_state c.args.self.now) c.args.self.now.noted.keys _
    (noted_none c.args.self.now.fragments.now.entries c.args.name.now.text c.args.self.now.noted.keys c.in_default.ensures.index)
