use Rattle.std.proofs.Common.{◌<◌, ◌≤◌, ◌∷◌, length, refl, arith}
use Rattle.rule_field_groups.specs.Conflicts.{judged_by}
use Rattle.rule_field_groups.proofs.Telling.{begun, compared_more, all_compared, counts_zero, count_more, count_within, count_next, count_all}
use Rattle.rule_field_groups.proofs.conflicts.check_others.Goals as goal

pub loop-other-init : goal.loop-other-init
loop-other-init c =
    let own = c.args.comparing.now in
    record {
      told = begun own.pass (judged_by own) (c.args.first ∷ c.args.others.now) c.args.first c.args.others.now refl c.args.breaches.now;
      counted = counts_zero own.pass c.args.comparisons.now;
      within = omega arith;
    }

pub loop-other-preserved : goal.loop-other-preserved
loop-other-preserved c =
    let own = c.args.comparing.now in
    let within : c.loop-other.other-index < length c.args.others.now = c.loop-other-test.true in
    record {
      told = compared_more own.pass (judged_by own) (c.args.first ∷ c.args.others.now) c.args.first c.args.others.now refl
          c.loop-other.other-index c.other-item.result within c.other-item.is
          c.args.breaches.now c.loop-other.breaches c.check_two.new.breaches c.in_ok-check_two.ensures.told c.loop-other.invariant.told;
      counted = count_more own.pass c.loop-other.other-index c.args.comparisons.now c.loop-other.comparisons c.check_two.new.comparisons
          c.loop-other.invariant.counted c.check_two.ensures.counted;
      within = omega arith;
    }

pub returns-in_err-check_two-clause-more : goal.returns-in_err-check_two-clause-more
returns-in_err-check_two-clause-more c =
    (count_next c.args.comparing.now.pass c.args.others.now c.loop-other.other-index c.args.comparisons.now c.loop-other.comparisons c.check_two.new.comparisons
    c.loop-other-test.true c.loop-other.invariant.counted c.check_two.ensures.counted).0

pub returns-in_err-check_two-clause-counted : goal.returns-in_err-check_two-clause-counted
returns-in_err-check_two-clause-counted c =
    (count_next c.args.comparing.now.pass c.args.others.now c.loop-other.other-index c.args.comparisons.now c.loop-other.comparisons c.check_two.new.comparisons
    c.loop-other-test.true c.loop-other.invariant.counted c.check_two.ensures.counted).1

pub returns-clause-told : goal.returns-clause-told
returns-clause-told c =
    let own = c.args.comparing.now in
    let ended : length c.args.others.now ≤ c.loop-other.other-index = c.loop-other-test.false in
    all_compared own.pass (judged_by own) (c.args.first ∷ c.args.others.now) c.args.first c.args.others.now refl
    c.loop-other.other-index ended c.args.breaches.now c.loop-other.breaches c.loop-other.invariant.told

pub returns-clause-more : goal.returns-clause-more
returns-clause-more c = (count_within c.args.comparing.now.pass c.args.others.now c.loop-other.other-index c.args.comparisons.now c.loop-other.comparisons c.loop-other.invariant.within c.loop-other.invariant.counted).0

pub returns-clause-counted : goal.returns-clause-counted
returns-clause-counted c = (count_within c.args.comparing.now.pass c.args.others.now c.loop-other.other-index c.args.comparisons.now c.loop-other.comparisons c.loop-other.invariant.within c.loop-other.invariant.counted).1

pub returns-clause-exact : goal.returns-clause-exact
returns-clause-exact c =
    count_all c.args.comparing.now.pass c.args.others.now c.loop-other.other-index c.args.comparisons.now c.loop-other.comparisons
    c.loop-other.invariant.within c.loop-other-test.false c.loop-other.invariant.counted
