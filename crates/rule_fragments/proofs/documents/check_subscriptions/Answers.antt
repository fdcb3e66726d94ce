use Rattle.std.proofs.Common.{◌≡◌, false, ◌∙◌, ◌∷◌, [], ◌++◌, map}
use Rattle.graphql_names.specs.Placed.{Place}
use Rattle.document_typed_operations.specs.OperationsByName.{left_operations}
use Rattle.document_typed_operations.specs.declared.document.ExecutableDocument.{ExecutableDocument}
use Rattle.spec_document.specs.MeantTree.{MeantOperation}
use Rattle.rule_selection_queries.specs.in_reach.in_typed_operations.DocumentView.{document_meant, operation_meant}
use Rattle.rule_document_definitions.specs.DocumentFaults.{Broken}
use Rattle.rule_document_definitions.specs.Selected.{operations}
use Rattle.rule_document_definitions.specs.Subscriptions.{SubscriptionBreaks}
use Rattle.rule_selection_queries.specs.in_reach.Broken.{brokens_of}
use Rattle.rule_fragments.specs.Documents.{SomeSubscriptionBreaks}
use Rattle.rule_fragments.specs.Thinned.{MayReplace}
use Rattle.rule_fragments.specs.UnlessFull.{HasAll}
use Rattle.rule_fragments.proofs.Lent.{lent_or}
use Rattle.rule_fragments.proofs.Operations.{lent_operation, lent_operations, all_operations, one_after, lent_more, lent_all, lent_among}
use Rattle.rule_fragments.proofs.UnlessFull.{each_none, each_more, exactly_one, each_exactly, adds_by, adds_full}
use Rattle.rule_fragments.proofs.documents.check_subscriptions.Goals as goal

pub loop-operation-init : goal.loop-operation-init
loop-operation-init c =
    let d = document_meant c.args.document.now in (
      λ own. each_none (SubscriptionBreaks d) (λ (o : MeantOperation Place) (f g : Broken Place). f ≡ g) {Right = SomeSubscriptionBreaks d} (brokens_of c.args.breaches.now),
      (λ i. map operation_meant (left_operations (c.into_iter-operation-iterator.ensures.into_iter_gives i)))
          ∙ all_operations c.args.document.now (left_operations c.iter-operation-items.result) c.iter-operation-items.ensures,
    )

pub loop-operation-preserved : goal.loop-operation-preserved
loop-operation-preserved c =
    let d = document_meant c.args.document.now in
    let at = c.loop-operation in
    let x = c.in-Some.operation in
    let left = left_operations at.operation-iterator in
    let rest = left_operations c.next.new.self in
    let mid = brokens_of at.breaches in
    let new = brokens_of c.check_subscription.new.breaches in
    let among = lent_among at.yielded x (operations d) left rest c.in-Some.ensures.steps at.invariant.1 in
    let in' = lent_or (λ (x : ExecutableDocument). MayReplace false d.fragments (document_meant x).fragments) c.unwrap_or-thin.result c.as_ref.result _ c.in_ok-thin.thin c.unwrap_or-thin.ensures c.as_ref.ensures.value c.in_ok-thin.ensures in (
      λ own. each_more (SubscriptionBreaks d) (λ (o : MeantOperation Place) (f g : Broken Place). f ≡ g) {Right = SomeSubscriptionBreaks d} (brokens_of c.args.breaches.now) mid new
          (lent_operations at.yielded) (lent_operations (at.yielded ++ x ∷ [])) (lent_operation x) (one_after at.yielded x) (at.invariant.0 own)
          (exactly_one (SubscriptionBreaks d) mid new (operations d) (lent_operation x) among (c.in_ok-check_subscription.ensures own in')),
      lent_more at.yielded x (operations d) left rest c.in-Some.ensures.steps at.invariant.1,
    )

-- where enough is told, the rest is left
pub returns-then-is_full : goal.returns-then-is_full
returns-then-is_full c =
    let d = document_meant c.args.document.now in
    let at = c.loop-operation in
    λ own. adds_full {Right = SomeSubscriptionBreaks d} {U = HasAll (SomeSubscriptionBreaks d)} (brokens_of c.args.breaches.now) (brokens_of at.breaches) (c.is_full.ensures.0 c.if-is_full.true) (at.invariant.0 own)

pub returns : goal.returns
returns c =
    let d = document_meant c.args.document.now in
    let at = c.loop-operation in
    let all = lent_all at.yielded (operations d) (left_operations at.operation-iterator) c.in-None.ensures.steps.0 at.invariant.1 in
    λ own. adds_by {Right = SomeSubscriptionBreaks d} {U = HasAll (SomeSubscriptionBreaks d)} (brokens_of c.args.breaches.now) (brokens_of at.breaches) (λ f h. h)
    (λ told h. each_exactly (SubscriptionBreaks d) (lent_operations at.yielded) (operations d) told all h) (at.invariant.0 own)
