use Rattle.std.proofs.Common.{◌<◌, length, subst, arith}
use Rattle.std.proofs.lemmas.List.{take_all}
use Rattle.rule_cycle_search.proofs.Lists.{not_in_nil}
use Rattle.rule_field_groups.proofs.Standing.{HasNumbers, numbers_more}
use Rattle.rule_field_groups.proofs.merge_state.MergeState.has_all.Goals as goal

pub loop-field-init : goal.loop-field-init
loop-field-init c = λ m k. not_in_nil m k

pub loop-field-preserved : goal.loop-field-preserved
loop-field-preserved c =
    let i = c.loop-field.field-index in
    let h : i < length c.args.fields.now = omega arith in
    numbers_more c.args.self.now.lists c.args.place c.args.fields.now i c.field-item.result h c.field-item.is c.loop-field.invariant (c.is_at.ensures c.if-not-is_at.false)

pub returns : goal.returns
returns c is = subst (HasNumbers c.args.self.now.lists c.args.place) (take_all c.loop-field.field-index c.args.fields.now c.loop-field-test.false) c.loop-field.invariant
