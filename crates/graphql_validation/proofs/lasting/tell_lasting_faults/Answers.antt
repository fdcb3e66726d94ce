use Rattle.std.proofs.Common.{false, map, ◌++◌, ap, ◌∙◌}
use Rattle.std.proofs.lemmas.Result.{on_ok_weaker}
use Rattle.rule_fragments.specs.in_typed_operations.DocumentView.{document_meant}
use Rattle.fault_data.specs.FaultView.{faults_of}
use Rattle.rule_merging.specs.in_faults.DetailsTree.{of_document}
use Rattle.rule_merging.specs.in_faults.DetailsView.{diagnostics_of}
use Rattle.rule_fragments.specs.in_reach.Broken.{broken_of, brokens_of}
use Rattle.rule_fragments.specs.in_schema.SchemaOf.{schema_tree}
use Rattle.graphql_validation.specs.Lasts.{broken_lasts}
use Rattle.graphql_validation.proofs.Filtered.{filter_view}
use Rattle.graphql_validation.specs.Operations.{all_told}
use Rattle.rule_merging.proofs.After.{begins_same, refused_so}
use Rattle.graphql_validation.proofs.StandingFaults.{lasting_told_of}
use Rattle.graphql_validation.proofs.lasting.tell_lasting_faults.Goals as goal

pub returns-in_err-faults-clause-begins : goal.returns-in_err-faults-clause-begins
returns-in_err-faults-clause-begins c = refused_so _ (begins_same (diagnostics_of c.args.list.now))

pub returns-in_err-breaches-clause-begins : goal.returns-in_err-breaches-clause-begins
returns-in_err-breaches-clause-begins c = refused_so _ (begins_same (diagnostics_of c.args.list.now))

pub returns-clause-told : goal.returns-clause-told
returns-clause-told c =
    let s = schema_tree c.args.schema.now in
    let d = document_meant c.args.document.now in
    let old = diagnostics_of c.args.list.now in
    let new = diagnostics_of c.append_told.new.list in
    let first = faults_of c.keep_first.new.faults in
    let front = brokens_of c.keep_first.new.breaches in
    let kept = c.keep_lasting_faults.ensures in
    let left = ap (map broken_of) c.keep_lasting_breaches.ensures ∙ filter_view broken_of broken_lasts c.keep_first.new.breaches.items in
    on_ok_weaker c.append_told.result
    (λ h. lasting_told_of s d (faults_of c.in_ok-faults.faults) first (brokens_of c.in_ok-breaches.breaches) front c.keep_first.result c.in_ok-faults.ensures.told c.in_ok-breaches.ensures c.keep_first.ensures old new
    (h ∙ (λ i. old ++ map of_document (all_told (kept i) (left i) false))))
    c.append_told.ensures.added
