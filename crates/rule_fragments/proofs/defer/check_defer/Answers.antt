use Rattle.std.proofs.Common.{◌≡◌, ◌++◌, sym, ap, subst, ◌∙◌, true≢false, rules}
use Rattle.std.specs.List.{flat_map}
use Rattle.std.proofs.lemmas.Result.{on_ok_weaker}
use Rattle.tree_directives.specs.declared.operation_type.OperationType.TheVariants as operation
use Rattle.document_typed_operations.specs.declared.operation.Operation.{Operation}
use Rattle.rule_definitions.specs.Room.{◌⊕◌}
use Rattle.rule_definitions.proofs.Room.{room_both}
use Rattle.rule_selection_queries.specs.in_reach.in_typed_operations.DocumentView.{document_meant, operation_meant}
use Rattle.rule_fragments.specs.Broken.{brokens_of}
use Rattle.rule_selection_queries.specs.Always.{AreAlways}
use Rattle.rule_fragments.specs.ListedBreaches.{fragment_deferred, always_deferred}
use Rattle.rule_fragments.specs.Rooted.{AreRoots}
use Rattle.rule_selection_queries.specs.Lent.{lent_all}
use Rattle.rule_fragments.proofs.Deferred.{of_mutation, of_subscription}
use Rattle.rule_fragments.proofs.defer.check_defer.Goals as goal

pub returns-then-not-is_subscription : goal.returns-then-not-is_subscription
returns-then-not-is_subscription c =
    let d = document_meant c.args.document.now in
    let o = operation_meant c.args.operation.now in
    let ss = lent_all c.deref.result.now in
    let roots = subst (λ l. AreRoots d o (lent_all l)) (sym c.deref.ensures.value) c.in_ok-roots.ensures in
    let other : o.operation_type ≡ operation.Query → ⊥ = λ e. true≢false (sym (c.is_query.ensures.1 (ap (λ (x : Operation). x.operation_type) c.content.ensures ∙ e)) ∙ c.if-is_query.false) in
    let never : o.operation_type ≡ operation.Subscription → ⊥ = λ e. true≢false (sym (c.if-not-is_subscription.ensures.1 (ap (λ (x : Operation). x.operation_type) c.content-2.ensures ∙ e))) in
    (flat_map (fragment_deferred o) ss, (c.in_ok-check_root_selections.ensures, of_mutation d o ss roots other never))

pub returns : goal.returns
returns c =
    let d = document_meant c.args.document.now in
    let o = operation_meant c.args.operation.now in
    let ss = lent_all c.deref.result.now in
    let ts = lent_all c.deref-2.result.now in
    let roots = subst (λ l. AreRoots d o (lent_all l)) (sym c.deref.ensures.value) c.in_ok-roots.ensures in
    let found = subst (λ l. AreAlways d o (lent_all l)) (sym c.deref-2.ensures.value) c.in_ok-found.ensures in
    let other : o.operation_type ≡ operation.Query → ⊥ = λ e. true≢false (sym (c.is_query.ensures.1 (ap (λ (x : Operation). x.operation_type) c.content.ensures ∙ e)) ∙ c.if-is_query.false) in
    let kind : o.operation_type ≡ operation.Subscription = search rules in
    let before = c.in_ok-check_root_selections.ensures in
    on_ok_weaker c.check_all_always_reached.result
    (λ told. (
      flat_map (fragment_deferred o) ss ++ flat_map always_deferred ts,
      (
        told ∙ ap (λ l. l ⊕ flat_map always_deferred ts) before ∙ room_both (brokens_of c.args.breaches.now) (flat_map (fragment_deferred o) ss) (flat_map always_deferred ts),
        of_subscription d o ss ts roots found other kind,
      ),
    )) c.check_all_always_reached.ensures
