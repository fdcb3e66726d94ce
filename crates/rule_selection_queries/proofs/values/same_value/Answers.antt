use Rattle.std.proofs.Common.{sym, ◌∙◌}
use Rattle.std.proofs.lemmas.Result.{IfOk-weaker}
use Rattle.rule_selection_queries.specs.Tests.{plain}
use Rattle.rule_selection_queries.proofs.Deciding.{same_decides}
use Rattle.rule_selection_queries.proofs.values.same_value.Goals as goal

pub returns : goal.returns
returns c =
    let d = same_decides (plain c.args.a.now) (plain c.args.b.now) in
    IfOk-weaker c.is_same.result _ _ (λ r is. (λ h. d.0 (sym is ∙ h), λ s. is ∙ d.1 s)) c.is_same.ensures
