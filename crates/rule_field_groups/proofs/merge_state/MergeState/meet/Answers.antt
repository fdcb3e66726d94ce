use Rattle.std.proofs.Common.{◌<◌, ◌≤◌, Contains, length, refl, sym, ap, subst, arith, inl, le_refl}
use Rattle.std.proofs.lemmas.List.Elements.{Contains-get_or}
use Rattle.list_interner.specs.NumberSet.{numbers_in}
use Rattle.list_interner.proofs.Sets.{as_many}
use Rattle.rule_field_groups.specs.declared.merge_state.MergeState.{MergeState}
use Rattle.rule_field_groups.proofs.Remembering.{meets_only, one_more_met}
use Rattle.rule_field_groups.proofs.merge_state.MergeState.meet.Goals as goal

pub loop-field-init : goal.loop-field-init
loop-field-init c = record { same = refl; only = λ n k. inl k; more = le_refl (length (numbers_in c.args.self.now.met)) }

pub loop-field-preserved : goal.loop-field-preserved
loop-field-preserved c =
    let list = c.args.list.now in
    let i = c.loop-field.field-index in
    let m = c.field-item.result in
    let h : i < length list = omega arith in
    let among : Contains list m = subst (Contains list) (sym c.field-item.is) (Contains-get_or list i m h) in
    let old = numbers_in c.args.self.now.met in
    let mid = numbers_in c.loop-field.self.met in
    let new = numbers_in c.insert.new.self in
    let puts = c.in_ok-insert.ensures.put in
    record {
      same = ap (λ (r : MergeState). record r { met = c.insert.new.self }) c.loop-field.invariant.same;
      only = one_more_met old mid new list m c.in_ok-insert.field-0 among puts c.loop-field.invariant.only;
      more = omega (arith, c.loop-field.invariant.more, as_many mid new m.number c.in_ok-insert.field-0 puts);
    }

pub returns-clause-meets : goal.returns-clause-meets
returns-clause-meets c =
    meets_only c.args.self.now c.loop-field.self c.loop-field.self.met c.args.list.now c.loop-field.invariant.same c.loop-field.invariant.only c.loop-field.invariant.more

pub returns-clause-same : goal.returns-clause-same
returns-clause-same c = c.loop-field.invariant.same

pub returns-in_err-insert-clause-meets : goal.returns-in_err-insert-clause-meets
returns-in_err-insert-clause-meets c =
    let is = c.in_err-insert.ensures.refused in
    let more : length (numbers_in c.args.self.now.met) ≤ length (numbers_in c.insert.new.self) = omega (arith, c.loop-field.invariant.more, ap length is) in
    meets_only c.args.self.now c.loop-field.self c.insert.new.self c.args.list.now c.loop-field.invariant.same (λ n k. c.loop-field.invariant.only n (subst (λ l. Contains l n) is k)) more

pub returns-in_err-insert-clause-same : goal.returns-in_err-insert-clause-same
returns-in_err-insert-clause-same c = ap (λ (r : MergeState). record r { met = c.insert.new.self }) c.loop-field.invariant.same
