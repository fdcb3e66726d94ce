use Rattle.std.proofs.Common.{◌∙◌, sym, ap}
use Rattle.rule_field_groups.proofs.Remembering.{numbers_of, where_err, kept_same, next_same, pays_none, pays_so, remembers_so}
use Rattle.rule_field_groups.proofs.merge_state.MergeState.remember_paid.Goals as goal

pub returns-in_err-meet-clause-refused : goal.returns-in_err-meet-clause-refused
returns-in_err-meet-clause-refused c =
    where_err c.from_residual.result (kept_same c.args.self.now c.meet.new.self c.args.list.now.members.items c.deref.result.now c.meet.ensures.same c.deref.ensures.value c.meet.ensures.meets)

pub returns-in_err-meet-clause-pays : goal.returns-in_err-meet-clause-pays
returns-in_err-meet-clause-pays c = pays_none c.args.self.now c.meet.new.self c.args.list.now.members.items c.deref.result.now c.meet.ensures.same c.deref.ensures.value c.meet.ensures.meets

pub returns-in_err-meet-clause-next : goal.returns-in_err-meet-clause-next
returns-in_err-meet-clause-next c = next_same c.args.self.now c.meet.new.self c.args.list.now.members.items c.deref.result.now c.meet.ensures.same c.deref.ensures.value c.meet.ensures.meets

pub returns-in-None-clause-remembers : goal.returns-in-None-clause-remembers
returns-in-None-clause-remembers c = λ w are all. kept_same c.args.self.now c.meet.new.self c.args.list.now.members.items c.deref.result.now c.meet.ensures.same c.deref.ensures.value c.meet.ensures.meets w

pub returns-in-None-clause-pays : goal.returns-in-None-clause-pays
returns-in-None-clause-pays c = pays_none c.args.self.now c.meet.new.self c.args.list.now.members.items c.deref.result.now c.meet.ensures.same c.deref.ensures.value c.meet.ensures.meets

pub returns-in-None-clause-next : goal.returns-in-None-clause-next
returns-in-None-clause-next c = next_same c.args.self.now c.meet.new.self c.args.list.now.members.items c.deref.result.now c.meet.ensures.same c.deref.ensures.value c.meet.ensures.meets

pub returns-then-not-list-clause-pays : goal.returns-then-not-list-clause-pays
returns-then-not-list-clause-pays c =
    pays_so c.args.self.now c.meet.new.self c.args.list.now.members.items c.deref.result.now c.meet.ensures.same c.deref.ensures.value c.meet.ensures.meets
    c.in-Some.spent c.max-steps.result c.len-2.result (c.in-Some.ensures.0) c.len-2.ensures (c.in-Some.ensures.1) c.meet.new.self.lists

pub returns-in_err-numbers-clause-pays : goal.returns-in_err-numbers-clause-pays
returns-in_err-numbers-clause-pays c =
    pays_so c.args.self.now c.meet.new.self c.args.list.now.members.items c.deref.result.now c.meet.ensures.same c.deref.ensures.value c.meet.ensures.meets
    c.in-Some.spent c.max-steps.result c.len-2.result (c.in-Some.ensures.0) c.len-2.ensures (c.in-Some.ensures.1) c.meet.new.self.lists

pub returns-in_err-is_new-clause-pays : goal.returns-in_err-is_new-clause-pays
returns-in_err-is_new-clause-pays c =
    pays_so c.args.self.now c.meet.new.self c.args.list.now.members.items c.deref.result.now c.meet.ensures.same c.deref.ensures.value c.meet.ensures.meets
    c.in-Some.spent c.max-steps.result c.len-2.result (c.in-Some.ensures.0) c.len-2.ensures (c.in-Some.ensures.1) c.remember.new.self

pub returns-clause-pays : goal.returns-clause-pays
returns-clause-pays c =
    pays_so c.args.self.now c.meet.new.self c.args.list.now.members.items c.deref.result.now c.meet.ensures.same c.deref.ensures.value c.meet.ensures.meets
    c.in-Some.spent c.max-steps.result c.len-2.result (c.in-Some.ensures.0) c.len-2.ensures (c.in-Some.ensures.1) c.remember.new.self

pub returns-clause-remembers : goal.returns-clause-remembers
returns-clause-remembers c =
    remembers_so c.args.self.now c.meet.new.self c.args.list.now.members.items c.deref.result.now c.meet.ensures.same c.deref.ensures.value c.meet.ensures.meets
    c.remember.new.self c.in_ok-numbers.numbers.items c.in_ok-is_new.is_new
    (c.in_ok-numbers.ensures ∙ ap numbers_of (c.deref-2.ensures.value ∙ sym c.deref.ensures.value)) c.in_ok-is_new.ensures.keeps
