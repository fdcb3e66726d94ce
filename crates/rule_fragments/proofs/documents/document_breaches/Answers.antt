use Rattle.rule_selection_queries.specs.in_reach.in_typed_operations.DocumentView.{document_meant}
use Rattle.rule_selection_queries.specs.in_reach.Broken.{brokens_of}
use Rattle.rule_fragments.proofs.InDocuments.{breaches_told}
use Rattle.rule_fragments.proofs.documents.document_breaches.Goals as goal

pub returns : goal.returns
returns c = λ own.
    breaches_told (document_meant c.args.document.now) (brokens_of c.in_ok-breaches.breaches) (brokens_of c.check_subscriptions.new.breaches) c.in_ok-breaches.ensures
    (c.in_ok-check_subscriptions.ensures own)
