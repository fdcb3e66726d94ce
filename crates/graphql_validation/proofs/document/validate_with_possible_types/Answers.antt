use Rattle.std.proofs.Common.{◌≡◌, OnOk, [], ◌∙◌, sym, subst, take, true≢false}
use Rattle.std.proofs.lemmas.Result.{on_ok_weaker}
use Rattle.rule_fragments.specs.in_typed_operations.DocumentView.{document_meant}
use Rattle.rule_document_definitions.proofs.UnplacedFragments.{named_if_own}
use Rattle.fault_data.specs.FaultView.{faults_of}
use Rattle.rule_merging.specs.in_faults.DetailsView.{diagnostics_of}
use Rattle.rule_fragments.specs.in_reach.Broken.{brokens_of}
use Rattle.rule_fragments.specs.in_schema.SchemaOf.{schema_tree}
use Rattle.rule_fragments.specs.in_schema.declared.schema.Schema.{Schema}
use Rattle.graphql_validation.specs.OperationChecks.{TellsMerging, AllMerge}
use Rattle.graphql_validation.specs.Operations.{all_told}
use Rattle.graphql_validation.specs.TellsDocument.{IsTypedUnder, TellsDocument}
use Rattle.rule_merging.proofs.After.{begins_same, refused_so}
use Rattle.rule_definitions.specs.Room.{most_told}
use Rattle.graphql_validation.proofs.FirstTold.{none_told}
use Rattle.graphql_validation.proofs.Once.{once_first, told_once}
use Rattle.graphql_validation.proofs.WholeDocuments.{own_names, document_told, nothing_beside, merging_told, breaches_kept, silent_is_valid, valid_is_silent, only_none}
use Rattle.graphql_validation.proofs.document.validate_with_possible_types.Goals as goal

pub returns-in_err-faults-clause-begins : goal.returns-in_err-faults-clause-begins
returns-in_err-faults-clause-begins c = refused_so _ (begins_same (diagnostics_of c.args.list.now))

pub returns-in_err-breaches-clause-begins : goal.returns-in_err-breaches-clause-begins
returns-in_err-breaches-clause-begins c = refused_so _ (begins_same (diagnostics_of c.args.list.now))

pub returns-in_err-document_breaches-clause-begins : goal.returns-in_err-document_breaches-clause-begins
returns-in_err-document_breaches-clause-begins c = refused_so _ (begins_same (diagnostics_of c.args.list.now))

-- ---- where nothing is told before merging

pub returns-then-is_nothing-clause-once : goal.returns-then-is_nothing-clause-once
returns-then-is_nothing-clause-once c =
    let d = document_meant c.args.document.now in
    on_ok_weaker c.merge_operations.result (λ h. (take most_told h.0, (h.1.0, once_first h.0 h.1.1.0)))
    (subst (λ (y : Schema). OnOk c.merge_operations.result (TellsMerging (schema_tree y) d c.args.list.now c.merge_operations.new.list)) c.schema.ensures c.merge_operations.ensures.told)

pub returns-then-is_nothing-clause-told : goal.returns-then-is_nothing-clause-told
returns-then-is_nothing-clause-told c =
    let s = schema_tree c.args.schema.now in
    let d = document_meant c.args.document.now in
    let fs = faults_of c.in_ok-faults.faults in
    let bs = brokens_of c.in_ok-breaches.breaches in
    let p = c.passes_path_bound-is_passed.result in
    let bound = c.passes_path_bound-is_passed.ensures in
    let breaks = breaches_kept s d (brokens_of c.in_ok-document_breaches.field-0) bs c.in_ok-document_breaches.ensures c.in_ok-breaches.ensures in
    let none : IsTypedUnder s d → TellsDocument s d [] = λ typed. nothing_beside s d typed fs bs p c.in_ok-faults.ensures.told breaks bound.right bound.found (c.is_nothing.ensures.0 c.if-is_nothing.true) in
    on_ok_weaker c.merge_operations.result (λ h typed. merging_told s d (diagnostics_of c.args.list.now) (diagnostics_of c.merge_operations.new.list) h.0 h.1.0 h.1.1.1 (none typed)) (subst (λ (y : Schema). OnOk c.merge_operations.result (TellsMerging (schema_tree y) d c.args.list.now c.merge_operations.new.list)) c.schema.ensures c.merge_operations.ensures.told)

pub returns-then-is_nothing-clause-silent : goal.returns-then-is_nothing-clause-silent
returns-then-is_nothing-clause-silent c =
    let s = schema_tree c.args.schema.now in
    let d = document_meant c.args.document.now in
    let fs = faults_of c.in_ok-faults.faults in
    let bs = brokens_of c.in_ok-breaches.breaches in
    let p = c.passes_path_bound-is_passed.result in
    let bound = c.passes_path_bound-is_passed.ensures in
    let breaks = breaches_kept s d (brokens_of c.in_ok-document_breaches.field-0) bs c.in_ok-document_breaches.ensures c.in_ok-breaches.ensures in
    let none : IsTypedUnder s d → TellsDocument s d [] = λ typed. nothing_beside s d typed fs bs p c.in_ok-faults.ensures.told breaks bound.right bound.found (c.is_nothing.ensures.0 c.if-is_nothing.true) in
    on_ok_weaker c.merge_operations.result
    (λ merged typed same. silent_is_valid s d (named_if_own d c.fragments_differ.ensures (own_names s d typed)) (none typed) (merged same)) (subst (λ (y : Schema). OnOk c.merge_operations.result (diagnostics_of c.merge_operations.new.list ≡ diagnostics_of c.args.list.now → AllMerge (schema_tree y) d)) c.schema.ensures c.merge_operations.ensures.merged)

pub returns-then-is_nothing-clause-accepts : goal.returns-then-is_nothing-clause-accepts
returns-then-is_nothing-clause-accepts c =
    let s = schema_tree c.args.schema.now in
    let d = document_meant c.args.document.now in
    on_ok_weaker c.merge_operations.result
    (λ told typed valid within. valid_is_silent s d (named_if_own d c.fragments_differ.ensures (own_names s d typed)) (diagnostics_of c.args.list.now) (diagnostics_of c.merge_operations.new.list) (told typed) valid within)
    (returns-then-is_nothing-clause-told c)

-- ---- where something is told

pub returns-clause-told : goal.returns-clause-told
returns-clause-told c =
    let s = schema_tree c.args.schema.now in
    let d = document_meant c.args.document.now in
    let fs = faults_of c.in_ok-faults.faults in
    let bs = brokens_of c.in_ok-breaches.breaches in
    let p = c.passes_path_bound-is_passed.result in
    let bound = c.passes_path_bound-is_passed.ensures in
    let breaks = breaches_kept s d (brokens_of c.in_ok-document_breaches.field-0) bs c.in_ok-document_breaches.ensures c.in_ok-breaches.ensures in
    on_ok_weaker c.append_all.result
    (λ h typed. document_told s d typed fs bs p c.in_ok-faults.ensures.told breaks bound.right bound.found (diagnostics_of c.args.list.now) (diagnostics_of c.append_all.new.list) h)
    c.append_all.ensures.added

pub returns-clause-once : goal.returns-clause-once
returns-clause-once c =
    let fs = faults_of c.in_ok-faults.faults in
    let bs = brokens_of c.in_ok-breaches.breaches in
    let p = c.passes_path_bound-is_passed.result in
    on_ok_weaker c.append_all.result
    (λ h. (take most_told (all_told fs bs p), (h, told_once fs bs p c.in_ok-faults.ensures.once (c.in_ok-breaches.ensures).once)))
    c.append_all.ensures.added

pub returns-clause-silent : goal.returns-clause-silent
returns-clause-silent c =
    let fs = faults_of c.in_ok-faults.faults in
    let bs = brokens_of c.in_ok-breaches.breaches in
    let p = c.passes_path_bound-is_passed.result in
    on_ok_weaker c.append_all.result
    (λ h typed same. absurd (true≢false (
    sym (c.is_nothing.ensures.1 (only_none fs bs p (none_told (diagnostics_of c.args.list.now) (diagnostics_of c.append_all.new.list) (all_told fs bs p) h same)))
    ∙ c.if-is_nothing.false)))
    c.append_all.ensures.added

pub returns-clause-accepts : goal.returns-clause-accepts
returns-clause-accepts c =
    let s = schema_tree c.args.schema.now in
    let d = document_meant c.args.document.now in
    on_ok_weaker c.append_all.result
    (λ told typed valid within. valid_is_silent s d (named_if_own d c.fragments_differ.ensures (own_names s d typed)) (diagnostics_of c.args.list.now) (diagnostics_of c.append_all.new.list) (told typed) valid within)
    (returns-clause-told c)
