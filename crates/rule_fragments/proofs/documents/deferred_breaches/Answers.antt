use Rattle.std.proofs.Common.{map, ap}
use Rattle.rule_selection_queries.specs.in_reach.in_typed_operations.DocumentView.{document_meant}
use Rattle.rule_selection_queries.specs.in_reach.Broken.{broken_of, brokens_of}
use Rattle.rule_fragments.proofs.InDocuments.{deferred_told}
use Rattle.rule_fragments.proofs.documents.deferred_breaches.Goals as goal

pub returns : goal.returns
returns c =
    deferred_told (document_meant c.args.document.now) (brokens_of c.new-breaches.result) (brokens_of c.check_defers.new.breaches) (brokens_of c.check_labels.new.breaches)
    (ap (map broken_of) c.new-breaches.ensures.items) c.in_ok-check_defers.ensures c.in_ok-check_labels.ensures
