use Rattle.std.proofs.Common.{[], ◌∷◌, ◌++◌, ap, ◌∙◌}
use Rattle.rule_merging.proofs.examination.first_level.Goals as goal

pub returns : goal.returns
returns c = c.in_ok-push.ensures.pushed ∙ ap (λ l. l ++ (c.args.start ∷ []) ∷ []) c.new-level.ensures
