use Rattle.std.proofs.Common.{◌≡◌, ◌∙◌, ◌∷◌, [], ◌++◌, map, refl, ap, sym, subst, inl, inr}
use Rattle.fault_data.specs.FaultView.{fault_of, faults_of}
use Rattle.graphql_names.specs.Placed.{Place}
use Rattle.document_typed_operations.specs.OperationsByName.{left_operations}
use Rattle.spec_document.specs.MeantTree.{MeantOperation}
use Rattle.rule_fragments.specs.in_typed_operations.DocumentView.{document_meant, operation_meant}
use Rattle.rule_definitions.specs.PlacedFaults.{PlacedFault}
use Rattle.rule_definitions.specs.Words.{AtSomeIndex}
use Rattle.rule_document_definitions.specs.Reached.{AtOperation}
use Rattle.rule_document_definitions.specs.Selected.{operations}
use Rattle.rule_fragments.specs.in_reach.NotedNames.{noted_names}
use Rattle.rule_fragments.specs.UnlessFull.{TellsUnlessFull}
use Rattle.rule_fragments.proofs.in_reach.AtReaches.{some_index}
use Rattle.graphql_validation.specs.Operations.{OperationFailsAlone, ReachesNamed, NotesNames}
use Rattle.graphql_validation.proofs.Joined.{TellsOf, none_found, more_found, all_found, full_found}
use Rattle.graphql_validation.proofs.Noting.{notes_none, notes_more, notes_same}
use Rattle.rule_fragments.proofs.Operations.{lent_operation, lent_operations, all_operations, one_after, lent_more, lent_all, lent_among}
use Rattle.graphql_validation.proofs.alone.check_operations.Goals as goal

pub loop-operation-init : goal.loop-operation-init
loop-operation-init c =
    let d = document_meant c.args.document.now in
    let none : noted_names c.new-found.result.used ≡ [] = ap (map (λ k. k.text)) c.new-found.ensures.used in (
      none_found (OperationFailsAlone d) {Right = λ f. AtOperation d (λ o. OperationFailsAlone d o f)} (faults_of c.new-found.result.faults) (ap (map fault_of) c.new-found.ensures.faults),
      subst (λ l. NotesNames [] l (λ n. AtSomeIndex [] (λ k o. ReachesNamed d o n))) (sym none) (notes_none (λ o n. ReachesNamed d o n) []),
      (λ i. map operation_meant (left_operations (c.into_iter-operation-iterator.ensures.into_iter_gives i)))
          ∙ all_operations c.args.document.now (left_operations c.iter-operation-items.result) c.iter-operation-items.ensures,
    )

pub loop-operation-preserved : goal.loop-operation-preserved
loop-operation-preserved c =
    let d = document_meant c.args.document.now in
    let at = c.loop-operation in
    let x = c.in-Some.operation in
    let left = left_operations at.operation-iterator in
    let rest = left_operations c.next.new.self in
    let xs = lent_operations at.yielded in
    let all = lent_operations (at.yielded ++ x ∷ []) in
    let before = faults_of c.take_faults-before.result in
    let own = faults_of c.check_operation.new.found.faults in
    let new = faults_of c.join.new.self.faults in
    let same : before ≡ faults_of at.found.faults = ap (λ v. faults_of v) c.take_faults-before.ensures.taken in
    let mid : noted_names c.take_faults-before.new.self.used ≡ noted_names at.found.used = ap noted_names c.take_faults-before.ensures.used in
    let last : noted_names c.join.new.self.used ≡ noted_names c.check_operation.new.found.used = ap noted_names c.in_ok-join.ensures.used in
    let among = lent_among at.yielded x (operations d) left rest c.in-Some.ensures.steps at.invariant.2 in (
      more_found (OperationFailsAlone d) {Right = λ f. AtOperation d (λ o. OperationFailsAlone d o f)} before own new xs all (lent_operation x) (one_after at.yielded x) (λ f fails. (lent_operation x, (among, fails)))
          (subst (TellsUnlessFull (λ f. AtOperation d (λ o. OperationFailsAlone d o f)) (TellsOf (OperationFailsAlone d) xs)) (sym same) at.invariant.0)
          (faults_of c.take_faults-before.new.self.faults) (ap (map fault_of) c.take_faults-before.ensures.none)
          c.in_ok-check_operation.ensures.told c.in_ok-join.ensures.joined,
      notes_more (λ o n. ReachesNamed d o n) [] (noted_names at.found.used) (noted_names c.join.new.self.used) xs all (lent_operation x) (one_after at.yielded x) at.invariant.1
          (subst (λ l. NotesNames (noted_names at.found.used) l (ReachesNamed d (lent_operation x))) (sym last) (subst (λ l. NotesNames l (noted_names c.check_operation.new.found.used) (ReachesNamed d (lent_operation x))) mid c.in_ok-check_operation.ensures.noted)),
      lent_more at.yielded x (operations d) left rest c.in-Some.ensures.steps at.invariant.2,
    )

-- where the list is full, the rest is left
pub returns-then-is_full-clause-told : goal.returns-then-is_full-clause-told
returns-then-is_full-clause-told c =
    let d = document_meant c.args.document.now in
    let at = c.loop-operation in
    full_found (OperationFailsAlone d) {Right = λ f. AtOperation d (λ o. OperationFailsAlone d o f)} (lent_operations at.yielded) (faults_of at.found.faults) (c.is_full.ensures.0 c.if-is_full.true) at.invariant.0

pub returns-then-is_full-clause-noted : goal.returns-then-is_full-clause-noted
returns-then-is_full-clause-noted c = inl (c.is_full.ensures.0 c.if-is_full.true)

pub returns-clause-told : goal.returns-clause-told
returns-clause-told c =
    let d = document_meant c.args.document.now in
    let at = c.loop-operation in
    let all = lent_all at.yielded (operations d) (left_operations at.operation-iterator) c.in-None.ensures.steps.0 at.invariant.2 in
    all_found (OperationFailsAlone d) {Right = λ f. AtOperation d (λ o. OperationFailsAlone d o f)} (lent_operations at.yielded) (operations d) (faults_of at.found.faults) all at.invariant.0

pub returns-clause-noted : goal.returns-clause-noted
returns-clause-noted c =
    let d = document_meant c.args.document.now in
    let at = c.loop-operation in
    let all = lent_all at.yielded (operations d) (left_operations at.operation-iterator) c.in-None.ensures.steps.0 at.invariant.2 in
    inr (notes_same (λ (o : MeantOperation Place) n. ReachesNamed d o n) [] (noted_names at.found.used)
    (λ n. AtSomeIndex (operations d) (λ k o. ReachesNamed d o n)) _ (λ n. some_index (operations d) (λ o. ReachesNamed d o n))
    (subst (λ l. NotesNames [] (noted_names at.found.used) (λ n. AtSomeIndex l (λ k o. ReachesNamed d o n))) all at.invariant.1))
