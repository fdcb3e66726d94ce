use Rattle.std.proofs.Common.{◌∙◌, sym, ap}
use Rattle.rule_field_sets.specs.Added.{with_new}
use Rattle.rule_field_sets.proofs.field_sets.push_new.Goals as goal

pub returns-then-is_repeated : goal.returns-then-is_repeated
returns-then-is_repeated c = ap (λ b. with_new b c.args.member c.args.members.now.items) (sym c.if-is_repeated.true)

pub returns : goal.returns
returns c = c.in_ok-push.ensures.items ∙ ap (λ b. with_new b c.args.member c.args.members.now.items) (sym c.if-is_repeated.false)
