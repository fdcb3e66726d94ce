use Rattle.std.proofs.Common.{map, ap, ◌∙◌}
use Rattle.std.proofs.lemmas.Result.{IfOk-weaker}
use Rattle.rule_selection_queries.specs.Tests.{entry_pair}
use Rattle.rule_selection_queries.proofs.ArgumentsTold.{arguments_told}
use Rattle.rule_selection_queries.proofs.arguments.differing_argument.Goals as goal

pub returns-clause-same : goal.returns-clause-same
returns-clause-same c =
    let given = ap (map entry_pair) c.deref.ensures.value ∙ c.in_ok-a.ensures in
    let given' = ap (map entry_pair) c.deref-2.ensures.value ∙ c.in_ok-b.ensures in
    IfOk-weaker c.differing_key.result _ _ (λ r e. (arguments_told c.deref.result.now c.deref-2.result.now c.args.a.now c.args.b.now given given' r e).0) c.differing_key.ensures

pub returns-clause-differs : goal.returns-clause-differs
returns-clause-differs c =
    let given = ap (map entry_pair) c.deref.ensures.value ∙ c.in_ok-a.ensures in
    let given' = ap (map entry_pair) c.deref-2.ensures.value ∙ c.in_ok-b.ensures in
    IfOk-weaker c.differing_key.result _ _ (λ r e. (arguments_told c.deref.result.now c.deref-2.result.now c.args.a.now c.args.b.now given given' r e).1) c.differing_key.ensures
