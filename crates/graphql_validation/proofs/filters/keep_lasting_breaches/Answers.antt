use Rattle.std.proofs.Common.{rules}
use Rattle.std.proofs.lemmas.Fn.{filter_same}
use Rattle.fault_document_errors.specs.DocumentBreachView.{document_breach_of}
use Rattle.graphql_validation.specs.Lasts.{breach_lasts}
use Rattle.graphql_validation.proofs.filters.keep_lasting_breaches.Goals as goal

pub returns : goal.returns
returns c = filter_same _ (λ b. breach_lasts (document_breach_of b.1)) _ (λ x b f' k. search rules) _ _ c.retain.ensures.filtered
