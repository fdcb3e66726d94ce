use Rattle.std.proofs.Common.{◌∙◌, ◌++◌, ◌∷◌, [], ℕ, List, map, subst}
use Rattle.graphql_names.specs.Placed.{Place}
use Rattle.graphql_schema.specs.SchemaOf.{schema_tree}
use Rattle.document_typed_operations.specs.DocumentView.{document_meant, operation_meant}
use Rattle.document_typed_operations.specs.OperationsByName.{left_operations}
use Rattle.spec_document.specs.MeantTree.{MeantOperation}
use Rattle.rule_definitions.specs.Words.{AtSomeIndex}
use Rattle.rule_definitions.proofs.Adding.{gains_none, gains_more, gains_same}
use Rattle.rule_document_definitions.specs.Selected.{operations}
use Rattle.rule_reach.proofs.AtReaches.{some_index}
use Rattle.strict_documents.specs.DepartureViews.{departures_of}
use Rattle.strict_documents.specs.DepartsIn.{DepartsInOperation}
use Rattle.strict_documents.specs.Telling.{AddsDepartures}
use Rattle.strict_documents.proofs.Operations.{lent_operation, lent_operations, all_operations, one_after, lent_more, lent_all}
use Rattle.strict_documents.proofs.document.tell_operations.Goals as goal

pub loop-operation-init : goal.loop-operation-init
loop-operation-init c =
    let t = schema_tree c.args.schema.now in
    let d = document_meant c.args.document.now in (
      gains_none (departures_of c.args.departures.now) (λ (i : ℕ) (o : MeantOperation Place) u. DepartsInOperation t d u o),
      (λ i. map operation_meant (left_operations (c.into_iter-operation-iterator.ensures.into_iter_gives i)))
          ∙ all_operations c.args.document.now (left_operations c.iter-operation-items.result) c.iter-operation-items.ensures,
    )

pub loop-operation-preserved : goal.loop-operation-preserved
loop-operation-preserved c =
    let t = schema_tree c.args.schema.now in
    let d = document_meant c.args.document.now in
    let at = c.loop-operation in
    let x = c.in-Some.operation in (
      gains_more (departures_of c.args.departures.now) (departures_of at.departures) (departures_of c.tell_operation.new.departures) (lent_operations at.yielded) (lent_operations (at.yielded ++ x ∷ [])) (lent_operation x)
          (λ (i : ℕ) (o : MeantOperation Place) u. DepartsInOperation t d u o) (one_after at.yielded x) at.invariant.0 c.in_ok-tell_operation.ensures,
      lent_more at.yielded x (operations d) (left_operations at.operation-iterator) (left_operations c.next.new.self) c.in-Some.ensures.steps at.invariant.1,
    )

pub returns : goal.returns
returns c =
    let t = schema_tree c.args.schema.now in
    let d = document_meant c.args.document.now in
    let at = c.loop-operation in
    let all = lent_all at.yielded (operations d) (left_operations at.operation-iterator) c.in-None.ensures.steps.0 at.invariant.1 in
    gains_same (departures_of c.args.departures.now) (departures_of at.departures) (λ u. some_index (operations d) (λ o. DepartsInOperation t d u o))
    (subst (λ (l : List (MeantOperation Place)). AddsDepartures c.args.departures.now at.departures (λ u. AtSomeIndex l (λ i o. DepartsInOperation t d u o))) all at.invariant.0)
