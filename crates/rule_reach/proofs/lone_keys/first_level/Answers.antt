use Rattle.std.proofs.Common.{◌∙◌, ◌++◌, [], ◌∷◌, ap}
use Rattle.rule_reach.specs.Passed.{sets_read}
use Rattle.rule_reach.proofs.lone_keys.first_level.Goals as goal

pub returns : goal.returns
returns c = ap sets_read (c.in_ok-push.ensures.items ∙ ap (λ l. l ++ c.args.set ∷ []) c.new-level.ensures.items)
