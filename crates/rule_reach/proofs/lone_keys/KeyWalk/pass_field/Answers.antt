use Rattle.std.proofs.Common.{refl, subst}
use Rattle.document_typed_selections.specs.declared.selection.Field.{Field}
use Rattle.rule_reach.specs.Passed.{read_of_set, sets_read, passed_fields, LacksKey, AddsSet, state_of}
use Rattle.rule_reach.proofs.Walking.{field_pushed}
use Rattle.rule_reach.proofs.lone_keys.KeyWalk.pass_field.Goals as goal

pub returns-clause-went : goal.returns-clause-went
returns-clause-went c = λ is fragments.
    field_pushed fragments (record { parent_type = c.args.ty; field = c.args.field }) c.args.self.now.fields.items c.push.new.self.items (state_of c.args.self.now c.args.next.now.items) (sets_read c.push_set.new.next.items)
    refl c.in_ok-push.ensures.items
    (subst (LacksKey (passed_fields c.args.self.now.fields.items)) c.response_key.ensures (c.has_key.ensures c.if-has_key.false))
    (subst (λ (f : Field). AddsSet (read_of_set f.selection_set) (sets_read c.args.next.now.items) (sets_read c.push_set.new.next.items)) c.content.ensures c.in_ok-push_set.ensures)
