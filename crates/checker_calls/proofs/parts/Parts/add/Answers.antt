use Rattle.std.proofs.Common.{ap, refl, ◌∙◌}
use Rattle.checker_calls.proofs.InParts.{fits, extended, repeated}
use Rattle.checker_calls.proofs.parts.Parts.add.Goals as goal

pub returns-then-text-lt-LONG : goal.returns-then-text-lt-LONG
returns-then-text-lt-LONG c = extended c.extend_from_slice.result c.args.self.now _ c.args.text.now c.extend_from_slice.ensures.items refl refl c.in-Some.ensures.1 (fits c.args.self.now.len c.args.text.now c.in-Some.len c.in-Some.ensures.0 c.in-Some.ensures.1)

pub returns-in-Some-find : goal.returns-in-Some-find
returns-in-Some-find c =
    repeated c.repeat.result c.args.self.now c.repeat.new.self c.args.text.now c.in-Some-find.start (ap (λ kept. kept.items) c.repeat.ensures.kept)
    c.repeat.ensures.ranges c.repeat.ensures.last (c.repeat.ensures.len ∙ c.in-Some.ensures.1) (fits c.args.self.now.len c.args.text.now c.repeat.new.self.len c.in-Some.ensures.0 (c.repeat.ensures.len ∙ c.in-Some.ensures.1)) c.in-Some-find.ensures

pub returns-in_ok-push-in-None : goal.returns-in_ok-push-in-None
returns-in_ok-push-in-None c = extended c.extend_from_slice-in-None.result c.args.self.now _ c.args.text.now c.extend_from_slice-in-None.ensures.items refl refl c.in-Some.ensures.1 (fits c.args.self.now.len c.args.text.now c.in-Some.len c.in-Some.ensures.0 c.in-Some.ensures.1)
