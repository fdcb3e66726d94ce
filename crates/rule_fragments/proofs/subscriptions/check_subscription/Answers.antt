use Rattle.std.proofs.Common.{◌≡◌, ◌++◌, [], refl, sym, ap, ◌∙◌, true≢false, rules}
use Rattle.std.specs.List.{flat_map}
use Rattle.std.proofs.lemmas.Result.{on_ok_weaker}
use Rattle.tree_directives.specs.declared.operation_type.OperationType.TheVariants as operation
use Rattle.document_typed_operations.specs.declared.operation.Operation.{Operation}
use Rattle.rule_definitions.specs.Room.{◌⊕◌}
use Rattle.rule_definitions.proofs.Room.{room_both}
use Rattle.rule_selection_queries.specs.in_reach.in_typed_operations.DocumentView.{document_meant, operation_meant}
use Rattle.rule_fragments.specs.Broken.{brokens_of}
use Rattle.rule_fragments.specs.ListedBreaches.{at_root}
use Rattle.rule_selection_queries.specs.Lent.{lent_all}
use Rattle.rule_fragments.proofs.Subscribed.{subscription_told, tells_nothing}
use Rattle.rule_fragments.proofs.subscriptions.check_subscription.Goals as goal

pub returns-then-not-is_subscription : goal.returns-then-not-is_subscription
returns-then-not-is_subscription c =
    let d = document_meant c.args.document.now in
    let o = operation_meant c.args.operation.now in
    λ own in'. ([], (refl, tells_nothing d o (λ e. true≢false (sym (c.if-not-is_subscription.ensures.1 (ap (λ (x : Operation). x.operation_type) c.content.ensures ∙ e))))))

pub returns : goal.returns
returns c =
    let d = document_meant c.args.document.now in
    let w = document_meant c.args.thin.now in
    let o = operation_meant c.args.operation.now in
    let ss = lent_all c.in_ok-roots.roots.items in
    let kind : o.operation_type ≡ operation.Subscription = search rules in
    on_ok_weaker c.check_root_selections.result
    (λ told own in'.
    let many = c.in_ok-subscription_uses_multiple_fields.ensures own in (
      many.0 ++ flat_map (at_root o) ss,
      (
        told ∙ (λ i. many.1.0 i ⊕ flat_map (at_root o) (lent_all (c.deref.ensures.value i))) ∙ room_both (brokens_of c.args.breaches.now) many.0 (flat_map (at_root o) ss),
        subscription_told d w in' o kind many.0 ss many.1.1 c.in_ok-roots.ensures,
      ),
    )) c.check_root_selections.ensures
