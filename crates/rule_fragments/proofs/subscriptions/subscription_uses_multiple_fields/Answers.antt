use Rattle.std.proofs.Common.{◌≡◌, [], ◌∷◌, option_map, refl, sym, ◌∙◌, true≢false, rules}
use Rattle.std.proofs.lemmas.Result.{on_ok_weaker}
use Rattle.graphql_names.specs.NameValue.{NameValue}
use Rattle.fault_document_errors.specs.DocumentBreaches.{SubscriptionUsesMultipleFields}
use Rattle.rule_selection_queries.specs.in_reach.in_typed_operations.DocumentView.{document_meant, operation_meant}
use Rattle.rule_document_definitions.specs.DocumentFaults.{broken}
use Rattle.rule_document_definitions.specs.Selected.{operation_name}
use Rattle.rule_fragments.proofs.Subscribed.{none_multiple, one_multiple}
use Rattle.rule_fragments.proofs.subscriptions.subscription_uses_multiple_fields.Goals as goal

pub returns-then-not-branch : goal.returns-then-not-branch
returns-then-not-branch c =
    let d = document_meant c.args.document.now in
    let o = operation_meant c.args.operation.now in
    λ own. ([], (refl, none_multiple d o (λ has. true≢false (sym ((c.in_ok-has_several_fields.ensures own).1 has) ∙ c.if-not-branch.true))))

pub returns : goal.returns
returns c =
    let d = document_meant c.args.document.now in
    let o = operation_meant c.args.operation.now in
    let name : option_map (λ (n : NameValue). n.text) c.in_ok-name.name ≡ operation_name o = search rules in
    on_ok_weaker c.tell_breach.result
    (λ told own. (
      broken c.location.result (SubscriptionUsesMultipleFields (option_map (λ (n : NameValue). n.text) c.in_ok-name.name)) ∷ [],
      (told, one_multiple d o ((c.in_ok-has_several_fields.ensures own).0 c.if-not-branch.false) _ (λ i. broken (c.location.ensures i) (SubscriptionUsesMultipleFields (name i)))),
    )) c.tell_breach.ensures.told
