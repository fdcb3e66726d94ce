use Rattle.std.proofs.Common.{map}
use Rattle.std.proofs.lemmas.Result.{on_ok_weaker}
use Rattle.rule_field_groups.specs.in_sets.in_reach.in_typed_operations.DocumentView.{operation_meant}
use Rattle.rule_field_groups.specs.in_document_definitions.DocumentFaults.{OfDocument}
use Rattle.graphql_faults.specs.DetailsTree.{of_document}
use Rattle.graphql_faults.specs.DetailsView.{diagnostics_of}
use Rattle.rule_field_groups.specs.in_sets.in_reach.Broken.{brokens_of}
use Rattle.rule_merging.proofs.Verdicts.{conflicts_in_turn}
use Rattle.rule_merging.proofs.After.{begins_kept}
use Rattle.rule_merging.proofs.merging.append_conflicts.Goals as goal

pub returns-clause-added : goal.returns-clause-added
returns-clause-added c =
    let o = operation_meant c.args.operation.now in
    on_ok_weaker c.append_limit.result
    (λ h. conflicts_in_turn (diagnostics_of c.args.list.now) (diagnostics_of c.append_breaches.new.list) (diagnostics_of c.append_limit.new.list) (brokens_of c.args.breaches) o.place c.args.left c.in_ok-append_breaches.ensures.added h)
    c.append_limit.ensures.added

pub returns-clause-begins : goal.returns-clause-begins
returns-clause-begins c =
    begins_kept c.append_limit.result (diagnostics_of c.args.list.now) (diagnostics_of c.append_breaches.new.list) (diagnostics_of c.append_limit.new.list)
    (map (λ b. of_document (OfDocument b)) (brokens_of c.args.breaches), c.in_ok-append_breaches.ensures.added)
    c.append_limit.ensures.kept
