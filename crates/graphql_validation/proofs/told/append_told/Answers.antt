use Rattle.std.proofs.Common.{map}
use Rattle.std.proofs.lemmas.Result.{on_ok_weaker}
use Rattle.fault_data.specs.FaultView.{faults_of}
use Rattle.rule_merging.specs.in_faults.DetailsTree.{of_rule, of_document}
use Rattle.rule_merging.specs.in_faults.DetailsView.{diagnostics_of}
use Rattle.rule_document_definitions.specs.DocumentFaults.{OfDocument}
use Rattle.rule_fragments.specs.in_reach.Broken.{brokens_of}
use Rattle.rule_merging.proofs.After.{begins_after, begins_kept, refused_so}
use Rattle.graphql_validation.proofs.Telling.{told_in_turn}
use Rattle.graphql_validation.proofs.told.append_told.Goals as goal

pub returns-clause-added : goal.returns-clause-added
returns-clause-added c =
    let old = diagnostics_of c.args.list.now in
    let one = diagnostics_of c.append_faults.new.self in
    let two = diagnostics_of c.append_breaches.new.list in
    on_ok_weaker c.append_bound.result
    (λ h. told_in_turn old one two (diagnostics_of c.append_bound.new.list) (faults_of c.args.faults) (brokens_of c.args.breaches) c.args.is_passed c.in_ok-append_faults.ensures.added c.in_ok-append_breaches.ensures.added h)
    c.append_bound.ensures.added

pub returns-in_err-append_breaches-clause-begins : goal.returns-in_err-append_breaches-clause-begins
returns-in_err-append_breaches-clause-begins c =
    refused_so _ (begins_after (diagnostics_of c.args.list.now) (diagnostics_of c.append_faults.new.self) (diagnostics_of c.append_breaches.new.list) (map of_rule (faults_of c.args.faults)) c.in_ok-append_faults.ensures.added c.in_err-append_breaches.ensures.begins)

pub returns-clause-begins : goal.returns-clause-begins
returns-clause-begins c =
    let old = diagnostics_of c.args.list.now in
    let one = diagnostics_of c.append_faults.new.self in
    let two = diagnostics_of c.append_breaches.new.list in
    begins_kept c.append_bound.result old two (diagnostics_of c.append_bound.new.list)
    (begins_after old one two (map of_rule (faults_of c.args.faults)) c.in_ok-append_faults.ensures.added (map (λ b. of_document (OfDocument b)) (brokens_of c.args.breaches), c.in_ok-append_breaches.ensures.added))
    c.append_bound.ensures.kept
