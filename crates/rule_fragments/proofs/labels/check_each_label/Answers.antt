use Rattle.std.proofs.Common.{◌<◌, length, arith}
use Rattle.rule_fragments.specs.Broken.{brokens_of}
use Rattle.rule_fragments.proofs.Labelled.{told_next, noted_next}
use Rattle.rule_fragments.proofs.labels.check_each_label.Goals as goal

pub loop-label-preserved : goal.loop-label-preserved
loop-label-preserved c =
    let xs = c.args.labels.now in
    let i = c.loop-label.label-index in
    let x = c.label-item.result in
    let h : i < length xs = omega arith in
    let places = c.loop-label.places in
    record {
      told = told_next xs i x h c.label-item.is places (brokens_of c.args.breaches.now) (brokens_of c.loop-label.breaches) (brokens_of c.defer_label_must_not_be_variable.new.breaches) (brokens_of c.check_string_label.new.breaches) c.loop-label.invariant.told c.loop-label.invariant.noted
          c.in_ok-defer_label_must_not_be_variable.ensures c.in_ok-check_string_label.ensures.told;
      noted = noted_next xs i x h c.label-item.is places c.check_string_label.new.places c.loop-label.invariant.noted c.in_ok-check_string_label.ensures.noted;
    }
