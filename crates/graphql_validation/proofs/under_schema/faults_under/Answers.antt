use Rattle.std.proofs.Common.{[], map, refl, sym, ap, subst}
use Rattle.std.proofs.lemmas.Result.{IfOk-weaker}
use Rattle.rule_fragments.specs.in_typed_operations.DocumentView.{document_meant}
use Rattle.fault_data.specs.FaultView.{fault_of, faults_of}
use Rattle.rule_definitions.specs.Judged.{judged}
use Rattle.rule_fragments.specs.Possible.{ArePossibleIfFound}
use Rattle.rule_fragments.specs.in_schema.SchemaOf.{schema_tree}
use Rattle.rule_fragments.specs.in_schema.declared.schema.Schema.{Schema}
use Rattle.rule_document_definitions.specs.Reached.{AtOperation}
use Rattle.rule_fragments.specs.in_reach.NotedNames.{noted_names}
use Rattle.rule_fragments.specs.in_reach.Reach.{meant_fragments}
use Rattle.rule_fragments.specs.UnlessFull.{HasAll, AddsUnlessFull}
use Rattle.rule_selections.specs.Settled.{ApplyWhereNoted, MayReplaceInEach}
use Rattle.graphql_validation.proofs.Settled.{lent_or}
use Rattle.graphql_validation.specs.Operations.{OperationFails, AllUnder}
use Rattle.rule_fragments.proofs.UnlessFull.{as_added}
use Rattle.graphql_validation.proofs.Data.{used_unless_full, tells_data}
use Rattle.graphql_validation.proofs.Once.{data_once}
use Rattle.graphql_validation.proofs.Ordered.{all_under, recursive_under}
use Rattle.graphql_validation.proofs.under_schema.faults_under.Goals as goal

pub applying_conditions-requires : goal.applying_conditions-requires
applying_conditions-requires c =
    subst (λ (y : Schema). ArePossibleIfFound (judged (schema_tree y)) c.in_ok-possible.possible) (sym c.schema.ensures) (subst (ArePossibleIfFound (judged (schema_tree c.args.schema.now))) (sym c.in_ok-possible.ensures) c.requires)

pub settled_fragments-requires : goal.settled_fragments-requires
settled_fragments-requires c = subst (λ (y : Schema). ApplyWhereNoted (schema_tree y) c.in_ok-applying.applying) c.schema.ensures c.in_ok-applying.ensures.applying

pub returns-clause-told : goal.returns-clause-told
returns-clause-told c =
    let s = schema_tree c.args.schema.now in
    let d = document_meant c.args.document.now in
    let found = c.in_ok-found.found in
    let in' = lent_or (λ x. MayReplaceInEach s d (meant_fragments x)) c.unwrap_or-fragments.result c.as_ref.result _ c.in_ok-settled.settled c.unwrap_or-fragments.ensures c.as_ref.ensures.value c.in_ok-settled.ensures in
    let old = faults_of found.faults in
    let all = faults_of c.in_ok-check_fragments.field-0 in
    let used = used_unless_full d old [] (noted_names found.used) refl (c.in_ok-found.ensures.noted in') in
    let right = subst (λ (y : Schema). ArePossibleIfFound (judged (schema_tree y)) c.applying_conditions.new.possible) c.schema.ensures c.in_ok-applying.ensures.right in
    IfOk-weaker c.each_once.result _ _
    (λ r keeps typed own.
    let t = as_added {Right = λ f. AtOperation d (λ o. OperationFails d o s f)} {TellsAll = HasAll (λ f. AtOperation d (λ o. OperationFails d o s f))} old (c.in_ok-found.ensures.told in' typed right) in
    data_once d (AllUnder s d) (λ o. OperationFails d o s) all (faults_of r) keeps
    (tells_data d (AllUnder s d) (λ o. OperationFails d o s) (λ o f. all_under d o f s) (λ o f. recursive_under d o f s) old all t c.in_ok-check_fragments.ensures.0 (λ some. c.in_ok-check_fragments.ensures.1 some own (used some))))
    c.each_once.ensures

pub returns-clause-once : goal.returns-clause-once
returns-clause-once c = IfOk-weaker c.each_once.result _ _ (λ r keeps. keeps.once) c.each_once.ensures
