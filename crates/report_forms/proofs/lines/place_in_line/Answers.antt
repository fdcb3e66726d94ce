use Rattle.std.proofs.Common.{◌≡◌, ℕ, ◌+◌, length, subst, sym, ap, arith}
use Rattle.report_forms.specs.Ends.{ends_character}
use Rattle.report_forms.proofs.Counting.{how_many-self}
use Rattle.report_forms.proofs.PlacesBack.{IsOnTheWay, none_at_end}
use Rattle.report_forms.proofs.lines.place_in_line.Goals as goal

pub loop-last-init : goal.loop-last-init
loop-last-init c = record {
  way = record {
    line = c.requires.begins;
    counted = sym (ap (λ n. 1 + n) (how_many-self (ends_character c.args.text.now) c.args.start));
    passed = λ k less is. absurd (omega (arith, less, is.line.before));
  };
  bound = omega arith;
}

pub returns-else-reached-column-2-clause-none : goal.returns-else-reached-column-2-clause-none
returns-else-reached-column-2-clause-none c =
    let end : c.loop-last.last ≡ length c.args.text.now = omega (arith, c.loop-last.auto.last-end, c.loop-last-test.false, c.requires.within) in
    none_at_end c.args.text.now c.args.start c.args.column c.loop-last.reached
    (subst (λ (p : ℕ). IsOnTheWay c.args.text.now c.args.start c.args.column c.loop-last.reached p) end c.loop-last.invariant.way) c.if-reached-column-2.false
