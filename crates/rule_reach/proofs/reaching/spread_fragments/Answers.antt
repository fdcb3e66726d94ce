use Rattle.std.proofs.lemmas.Result.{IfOk-weaker}
use Rattle.document_typed_operations.specs.WalkView.{gathered_names}
use Rattle.rule_reach.proofs.reaching.spread_fragments.Goals as goal

pub returns : goal.returns
returns c = IfOk-weaker c.fragments_named.result _ _ (λ r named. (gathered_names c.in_ok-names.names, (c.in_ok-names.ensures.reached, named))) c.fragments_named.ensures
