use Rattle.std.proofs.Common.{take}
use Rattle.std.proofs.lemmas.Result.{on_ok_weaker}
use Rattle.rule_fragments.specs.in_typed_operations.DocumentView.{document_meant}
use Rattle.fault_data.specs.FaultView.{faults_of}
use Rattle.rule_merging.specs.in_faults.DetailsView.{diagnostics_of}
use Rattle.rule_document_definitions.proofs.UnplacedFragments.{named_if_own}
use Rattle.rule_fragments.specs.in_reach.Broken.{brokens_of}
use Rattle.rule_merging.proofs.After.{begins_same, refused_so}
use Rattle.rule_definitions.specs.Room.{most_told}
use Rattle.graphql_validation.specs.Operations.{all_told}
use Rattle.graphql_validation.proofs.Once.{told_once, all_once_told}
use Rattle.graphql_validation.proofs.WholeAlone.{alone_told, silent_is_valid, valid_is_silent}
use Rattle.graphql_validation.proofs.standalone.validate_standalone_executable.Goals as goal

pub returns-in_err-faults-clause-begins : goal.returns-in_err-faults-clause-begins
returns-in_err-faults-clause-begins c = refused_so _ (begins_same (diagnostics_of c.args.list.now))

pub returns-in_err-breaches-clause-begins : goal.returns-in_err-breaches-clause-begins
returns-in_err-breaches-clause-begins c = refused_so _ (begins_same (diagnostics_of c.args.list.now))

pub returns-in_err-deferred_breaches-clause-begins : goal.returns-in_err-deferred_breaches-clause-begins
returns-in_err-deferred_breaches-clause-begins c = refused_so _ (begins_same (diagnostics_of c.args.list.now))

pub returns-clause-once : goal.returns-clause-once
returns-clause-once c =
    let fs = faults_of c.in_ok-faults.faults in
    let bs = brokens_of c.in_ok-breaches.breaches in
    let p = c.passes_path_bound-is_passed.result in
    on_ok_weaker c.append_all.result
    (λ h. (take most_told (all_told fs bs p), (h, told_once fs bs p c.in_ok-faults.ensures.once (c.in_ok-breaches.ensures).once)))
    c.append_all.ensures.added

pub returns-clause-told : goal.returns-clause-told
returns-clause-told c =
    let d = document_meant c.args.document.now in
    let fs = faults_of c.in_ok-faults.faults in
    let bs = brokens_of c.in_ok-breaches.breaches in
    let bound = c.passes_path_bound-is_passed.ensures in
    on_ok_weaker c.append_all.result
    (λ h own. alone_told d fs bs c.passes_path_bound-is_passed.result (diagnostics_of c.args.list.now) (diagnostics_of c.append_all.new.list) (c.in_ok-faults.ensures.told own) (all_once_told (brokens_of c.in_ok-deferred_breaches.field-0) bs c.in_ok-breaches.ensures c.in_ok-deferred_breaches.ensures) bound.right bound.found h)
    c.append_all.ensures.added

pub returns-clause-silent : goal.returns-clause-silent
returns-clause-silent c =
    let d = document_meant c.args.document.now in
    let old = diagnostics_of c.args.list.now in
    let new = diagnostics_of c.append_all.new.list in
    on_ok_weaker c.append_all.result
    (λ told own same. silent_is_valid d (named_if_own d c.fragments_differ.ensures own) old new (told own) same)
    (returns-clause-told c)

pub returns-clause-accepts : goal.returns-clause-accepts
returns-clause-accepts c =
    let d = document_meant c.args.document.now in
    let old = diagnostics_of c.args.list.now in
    let new = diagnostics_of c.append_all.new.list in
    on_ok_weaker c.append_all.result
    (λ told own valid within. valid_is_silent d (named_if_own d c.fragments_differ.ensures own) old new (told own) valid within)
    (returns-clause-told c)
