use Rattle.std.proofs.Common.{[], ◌∙◌, ap, subst}
use Rattle.rule_field_groups.specs.NodeWalk.{state_of, with_paid, Passes}
use Rattle.rule_field_groups.proofs.Walking.{ok_so, passes_unpaid, node_passed}
use Rattle.rule_field_groups.proofs.node_walk.NodeWalk.pass_node.Goals as goal

pub returns-then-not-is_paid : goal.returns-then-not-is_paid
returns-then-not-is_paid c =
    let v = c.args.node.now in
    let s = state_of c.args.self.now in
    passes_unpaid v.members.items v.spreads.items s (state_of c.steps_on-is_paid.new.self) (c.steps_on-is_paid.ensures ∙ ap (λ b. with_paid b s) c.if-not-is_paid.true)

pub returns : goal.returns
returns c =
    let v = c.args.node.now in
    let s = state_of c.args.self.now in
    let mid = state_of c.pass_members.new.self in
    ok_so c.note_spreads.result
    (λ noted. node_passed v.members.items v.spreads.items s (state_of c.steps_on-is_paid.new.self) mid (state_of c.note_spreads.new.self)
    (c.steps_on-is_paid.ensures ∙ ap (λ b. with_paid b s) c.if-not-is_paid.false)
    (subst (λ l. Passes l [] (state_of c.steps_on-is_paid.new.self) mid) c.deref-2.ensures.value c.in_ok-pass_members.ensures)
    (subst (λ l. Passes [] l mid (state_of c.note_spreads.new.self)) c.deref-3.ensures.value noted))
    c.note_spreads.ensures
