use Rattle.std.proofs.Common.{[], map, refl}
use Rattle.std.proofs.lemmas.Result.{IfOk-weaker}
use Rattle.rule_fragments.specs.in_typed_operations.DocumentView.{document_meant}
use Rattle.fault_data.specs.FaultView.{fault_of, faults_of}
use Rattle.rule_document_definitions.specs.Reached.{AtOperation}
use Rattle.rule_fragments.specs.in_reach.NotedNames.{noted_names}
use Rattle.rule_fragments.specs.UnlessFull.{HasAll, AddsUnlessFull}
use Rattle.graphql_validation.specs.Operations.{OperationFailsAlone, AllAlone}
use Rattle.rule_fragments.proofs.UnlessFull.{as_added}
use Rattle.graphql_validation.proofs.Data.{used_unless_full, tells_data}
use Rattle.graphql_validation.proofs.Once.{data_once}
use Rattle.graphql_validation.proofs.Ordered.{all_alone, recursive_alone}
use Rattle.graphql_validation.proofs.alone.faults_alone.Goals as goal

pub returns-clause-told : goal.returns-clause-told
returns-clause-told c =
    let d = document_meant c.args.document.now in
    let found = c.in_ok-found.found in
    let old = faults_of found.faults in
    let all = faults_of c.in_ok-check_fragments.field-0 in
    let t = as_added {Right = λ f. AtOperation d (λ o. OperationFailsAlone d o f)} {TellsAll = HasAll (λ f. AtOperation d (λ o. OperationFailsAlone d o f))} old c.in_ok-found.ensures.told in
    let used = used_unless_full d old [] (noted_names found.used) refl c.in_ok-found.ensures.noted in
    IfOk-weaker c.each_once.result _ _
    (λ r keeps own. data_once d (AllAlone d) (OperationFailsAlone d) all (faults_of r) keeps
    (tells_data d (AllAlone d) (OperationFailsAlone d) (all_alone d) (recursive_alone d) old all t c.in_ok-check_fragments.ensures.0 (λ some. c.in_ok-check_fragments.ensures.1 some own (used some))))
    c.each_once.ensures

pub returns-clause-once : goal.returns-clause-once
returns-clause-once c = IfOk-weaker c.each_once.result _ _ (λ r keeps. keeps.once) c.each_once.ensures
