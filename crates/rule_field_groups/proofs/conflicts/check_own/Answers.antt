use Rattle.std.proofs.lemmas.Result.{on_ok_weaker}
use Rattle.rule_field_groups.specs.Conflicts.{judged_by}
use Rattle.rule_field_groups.proofs.Telling.{adds_unshared, adds_shared_first}
use Rattle.rule_field_groups.proofs.conflicts.check_own.Goals as goal

pub returns-in-None-clause-told : goal.returns-in-None-clause-told
returns-in-None-clause-told c =
    let comparing = c.args.comparing.now in
    on_ok_weaker c.check_group.result
    (λ h. adds_unshared comparing.pass (judged_by comparing) c.args.shared.now c.args.own.now c.in-None.ensures.cases c.args.breaches.now c.check_group.new.breaches h) c.check_group.ensures.told

pub returns-in-Some-clause-told : goal.returns-in-Some-clause-told
returns-in-Some-clause-told c =
    let comparing = c.args.comparing.now in
    on_ok_weaker c.check_others.result
    (λ h. adds_shared_first comparing.pass (judged_by comparing) c.in-Some.first.now _ c.args.shared.now c.args.own.now c.in-Some.ensures.cases.0 c.args.breaches.now c.check_others.new.breaches h) c.check_others.ensures.told
